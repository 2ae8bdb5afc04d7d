-- Days and texts that may be said of an order, and others.
use Rattle.std.specs.Prelude.{◌≡◌, refl, List, [], ◌∷◌, true, false, codes, replicate}
use Rattle.shop_records.specs.Notes.{is_day, is_due, is_note_text}

a_day : is_day 20261203 ≡ true
a_day = refl

first_day : is_day 19700101 ≡ true
first_day = refl

day_before_it : is_day 19691231 ≡ false
day_before_it = refl

last_day : is_day 99991231 ≡ true
last_day = refl

no_month : is_day 20261301 ≡ false
no_month = refl

no_month_zero : is_day 20260001 ≡ false
no_month_zero = refl

no_day_zero : is_day 20260100 ≡ false
no_day_zero = refl

no_31st : is_day 20260931 ≡ false
no_31st = refl

no_29th : is_day 20260229 ≡ false
no_29th = refl

leap_day : is_day 20280229 ≡ true
leap_day = refl

no_leap_day : is_day 21000229 ≡ false
no_leap_day = refl

leap_day_of_a_fourth_century : is_day 20000229 ≡ true
leap_day_of_a_fourth_century = refl

no_day_is_due : is_due 0 ≡ true
no_day_is_due = refl

not_a_day : is_due 1 ≡ false
not_a_day = refl

edges_ground : is_note_text (codes "edges ground") ≡ true
edges_ground = refl

-- U+00FC, and U+0085 of the same first byte
letter : is_note_text (0xC3 ∷ 0xBC ∷ []) ≡ true
letter = refl

next_line : is_note_text (0xC2 ∷ 0x85 ∷ []) ≡ false
next_line = refl

line_feed : is_note_text (97 ∷ 10 ∷ []) ≡ false
line_feed = refl

longest : is_note_text (replicate 200 97) ≡ true
longest = refl

too_long : is_note_text (replicate 201 97) ≡ false
too_long = refl
