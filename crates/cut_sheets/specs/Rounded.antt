-- A sheet problem in steps: the kerf is added to each side, and the sides are counted in steps.
use Rattle.std.specs.Prelude.{ℕ, ◌+◌, ◌/◌, ◌%◌, ◌==◌, ◌&&◌, ◌≤◌, Bool, List, map, Contains}
use Rattle.std.specs.Int.{div_ceil}
use Rattle.cut_wants.specs.declared.wants.Want.{Want}

abbrev pub steps_down : ℕ → ℕ → ℕ → ℕ
steps_down k s l = (l + k) / s

abbrev pub steps_up : ℕ → ℕ → ℕ → ℕ
steps_up k s l = div_ceil (l + k) s

abbrev pub want_down : ℕ → ℕ → Want → Want
want_down k s x = record x { size = record { w = steps_down k s x.size.w; h = steps_down k s x.size.h } }

abbrev pub want_up : ℕ → ℕ → Want → Want
want_up k s x = record x { size = record { w = steps_up k s x.size.w; h = steps_up k s x.size.h } }

abbrev pub wants_down : ℕ → ℕ → List Want → List Want
wants_down k s xs = map (want_down k s) xs

abbrev pub wants_up : ℕ → ℕ → List Want → List Want
wants_up k s xs = map (want_up k s) xs

-- each side and a kerf are whole steps
abbrev pub is_exact : ℕ → ℕ → Want → Bool
is_exact k s x = (x.size.w + k) % s == 0 && (x.size.h + k) % s == 0

-- a step of at least 1 and at most each side and a kerf
pub record IsStep (k s : ℕ) (wants : List Want) : Type 0 where
  pub some : 1 ≤ s
  pub within : (x : Want) → Contains wants x → (s ≤ x.size.w + k) × (s ≤ x.size.h + k)
