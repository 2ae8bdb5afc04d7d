-- What is known of the tables that an adopt found or made is known of a content.
use Rattle.std.proofs.Common.{◌≡◌, inl, inr, IsTrue, refl, sym, ◌∙◌, true≢false}
use Rattle.std.specs.FinMap.{FinMap, empty}
use Rattle.std.proofs.lemmas.Bool.{cases_Bool}
use Rattle.sqlite_trees.specs.View.{doubt}
use Rattle.sqlite.specs.State.{State, HasCleanDisk, Survives}
use Rattle.sqlite.proofs.StateLemmas.{survives_weaker}
use Rattle.cut_measure.specs.Codes.{code_cmp}
use Rattle.shop_records.specs.Content.{Content, fresh}
use Rattle.shop_records.proofs.Basics.{nat_cases}
use Rattle.shop_records.specs.WellFormed.{HasLines}
use Rattle.shop_records.specs.declared.records.Totals.{Totals}
use Rattle.shop_tables.specs.Adopting.{LeavesBooks}
use Rattle.shop_tables.specs.declared.adopting.AdoptFault.{AdoptFault}
use Rattle.shop_tables.specs.declared.adopting.AdoptFault.TheVariants as adopt
use Rattle.shop_tables.specs.Changing.{HasSums, HasTrail}
use Rattle.shop_tables.specs.Held.{books, HoldsContent, IsSettledAt, LeavesOnly, StandsFor}
use Rattle.shop_statements.specs.Shown.{Books, Holds, IsSettled, StandsIn, fresh_books}
use Rattle.shop_book.specs.declared.books.BookFault.TheVariants.{WrongVersion}
use Rattle.shop_store.specs.SqlBooks.{adopt_fault}
use Rattle.shop_records.proofs.LinesKept.{fresh_lines}
use Rattle.shop_statements.specs.Rows.{use_cmp}
use Rattle.shop_tables.proofs.FreshBooks.{fresh_sums, fresh_trail}

pub holds_fresh : (s : State) → Holds s fresh_books → HoldsContent s fresh
holds_fresh s h = record { lines = fresh_lines; totals = empty; uses = empty; sums = fresh_sums; trail = fresh_trail; holds = h }

pub survives_fresh : (old new : State) → Survives old new (λ db. StandsIn db fresh_books) → Survives old new (λ db. StandsFor db fresh)
survives_fresh old new h = survives_weaker old new _ _ (λ clean db stands. record { lines = fresh_lines; totals = empty; uses = empty; sums = fresh_sums; trail = fresh_trail; stands = stands }) h

pub leaves_fresh : (s : State) → LeavesBooks s fresh_books → LeavesOnly s fresh
leaves_fresh s h clean db left = record { lines = fresh_lines; totals = empty; uses = empty; sums = fresh_sums; trail = fresh_trail; stands = h clean db left }

pub holds_settled : (old new : State) (m : Content) → IsSettledAt old m → ((b : Books) → IsSettled old b → Holds new b) → HoldsContent new m
holds_settled old new m was held = record { lines = was.lines; totals = was.totals; uses = was.uses; sums = was.sums; trail = was.trail; holds = held (books m was.totals was.uses) was.settled }

-- what is held under a clean disk while the connection is open is held
pub holds_when : (s : State) (m : Content) → HasLines m → (totals : FinMap code_cmp Totals) (uses : FinMap use_cmp (Unit {0})) → HasSums (books m totals uses) → HasTrail (books m totals uses) → (HasCleanDisk s → IsTrue s.is_open → HoldsContent s m) → HoldsContent s m
holds_when s m lines totals uses sums trail h =
    elim (nat_cases (doubt s.is_clean) 0) [
      | inr off ↦ record { lines = lines; totals = totals; uses = uses; sums = sums; trail = trail; holds = λ clean up. absurd (off.0 clean) }
      | inl clean ↦ elim (cases_Bool s.is_open) [
        | inl up ↦ h clean.0 up
        | inr down ↦ record { lines = lines; totals = totals; uses = uses; sums = sums; trail = trail; holds = λ _ up. absurd (true≢false (sym up ∙ down)) }
      ]
    ]

pub wrong_version : (fault : AdoptFault) → adopt_fault fault ≡ WrongVersion → fault ≡ adopt.WrongVersion
wrong_version adopt.NoMemory e = absurd (cc)
wrong_version adopt.Store e = absurd (cc)
wrong_version adopt.WrongVersion e = refl
