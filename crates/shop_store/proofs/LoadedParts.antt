-- Parts that are loaded in turn: they are added up, and put.
use Rattle.std.proofs.Common.{◌≡◌, ◌++◌, Bool, true, false, true≢false, ℕ, List, [], ◌∷◌, Ok, Result, inl, inr, IfOk, IsTrue, refl, sym, ap, subst, ◌∙◌, append-nil}
use Rattle.std.specs.Bool.{Decides}
use Rattle.std.specs.FinMap.{values}
use Rattle.sqlite.specs.State.{State, HasCleanDisk}
use Rattle.shop_records.specs.Content.{Content}
use Rattle.shop_records.specs.Visits.{GoesOn, HasSeen, IsVisit}
use Rattle.shop_records.specs.declared.records.Part.{Part}
use Rattle.shop_statements.specs.declared.faults.TableFault.{TableFault}
use Rattle.shop_records.specs.declared.changes.MaterialTotals.{MaterialTotals}
use Rattle.shop_records.specs.declared.records.Column.{Column}
use Rattle.shop_tables.specs.Changing.{HasSums}
use Rattle.shop_statements.specs.Earlier.{HoldsEither, OnBooksEarlier, OnBooksSecond}
use Rattle.shop_statements.specs.Shown.{Books, OnBooks}
use Rattle.shop_rows.specs.Adding.{has_sums}
use Rattle.shop_rows.specs.Sums.{sum_at}
use Rattle.shop_store.specs.Checking.{AddsPart, AreSumsIn, IsListOf, are_totals_for}
use Rattle.shop_store.specs.declared.adders.PartAdder.{PartAdder}
use Rattle.shop_store.specs.declared.loaded.Loaded.{Loaded}
use Rattle.shop_store.specs.declared.loaded.Loaded.TheVariants as loaded
use Rattle.shop_store.proofs.Counting.{added_all}
use Rattle.shop_store.specs.Loading.{IsLoaded, LoadsPart, loading_in, put_part, with_each}
use Rattle.shop_store.specs.declared.part_loader.PartLoader.{PartLoader}

pub added_too : (parts : List Part) (old new : PartLoader) → GoesOn LoadsPart parts old new → GoesOn AddsPart parts old.adder new.adder
added_too [] old new is = ap (λ (l : PartLoader). l.adder) is
added_too (part ∷ parts) old new goes = (goes.0.adder, goes.1.0, added_too parts goes.0 new goes.2)

put_too : (parts : List Part) (old new : PartLoader) → GoesOn LoadsPart parts old new → loading_in new ≡ with_each put_part parts (loading_in old)
put_too [] old new is = ap loading_in (sym is)
put_too (part ∷ parts) old new goes = put_too parts goes.0 new goes.2 ∙ ap (with_each put_part parts) goes.1.1

-- what the adder in it has seen
seen_too : (parts : List Part) (on : Bool) (old new : PartLoader) → (on ≡ false → new.wanting ≡ false) → HasSeen LoadsPart parts on old new → HasSeen AddsPart parts on old.adder new.adder
seen_too parts true old new spare seen = added_too parts old new seen
seen_too parts false old new spare seen = (seen.0, seen.1, seen.2.adder, seen.3, added_too seen.0 old seen.2 seen.4, seen.5 (spare refl))

abbrev pub IsVisitOf : List Part → PartLoader → Result Bool TableFault → PartLoader → Type 0
IsVisitOf list old r new = IsVisit LoadsPart {Fault = TableFault} (λ what. what list) old r new

-- a visit of the parts of books that are held in any version
pub held_visit : (s t : State) (b : Books) (old new : PartLoader) (r : Result Bool TableFault) → HasCleanDisk t → HoldsEither s b → IsVisit LoadsPart {Fault = TableFault} (λ what. OnBooks s t (λ b. what (values b.content.parts))) old r new
    → IsVisit LoadsPart {Fault = TableFault} (λ what. OnBooksSecond s t (λ b. what (values b.content.parts))) old r new → IsVisit LoadsPart {Fault = TableFault} (λ what. OnBooksEarlier s t (λ b. what (values b.content.parts))) old r new
    → IsVisitOf (values b.content.parts) old r new
held_visit s t b old new r clean (inl was) v second earlier = record { parts = v.parts; on = v.on; visitor = v.visitor; answer = v.answer; begins = v.begins clean b was }
held_visit s t b old new r clean (inr (inl was)) v second earlier = record { parts = second.parts; on = second.on; visitor = second.visitor; answer = second.answer; begins = second.begins clean b was }
held_visit s t b old new r clean (inr (inr was)) v second earlier = record { parts = earlier.parts; on = earlier.on; visitor = earlier.visitor; answer = earlier.answer; begins = earlier.begins clean b was }

pub adder_visit : (list : List Part) (old new : PartLoader) (r : Result Bool TableFault) (visit : IsVisitOf list old r new) → (visit.on ≡ false → new.wanting ≡ false) → IsVisit AddsPart {Fault = TableFault} (λ what. what list) old.adder r new.adder
adder_visit list old new r visit spare = record {
  parts = visit.parts;
  on = visit.on;
  visitor = seen_too visit.parts visit.on old new spare visit.visitor;
  answer = visit.answer;
  begins = visit.begins;
}

-- a visit that came to the end has put all
pub all_put : (list : List Part) (old new : PartLoader) (r : Result Bool TableFault) → r ≡ Ok true → (visit : IsVisitOf list old r new) → (visit.on ≡ true) × (loading_in new ≡ with_each put_part list (loading_in old))
all_put list old new r went visit =
    let on : visit.on ≡ true = sym (subst (λ r. IfOk r (λ t. t ≡ visit.on)) went visit.answer) in
    let goes : GoesOn LoadsPart visit.parts old new = subst (λ o. HasSeen LoadsPart visit.parts o old new) on visit.visitor in
    let begins = subst (λ r. (rest : List Part) × (list ≡ visit.parts ++ rest) × IfOk r (λ t. IsTrue t → rest ≡ [])) went visit.begins in
    let whole : visit.parts ≡ list = sym (begins.1 ∙ ap (λ rest. visit.parts ++ rest) (begins.2 refl) ∙ append-nil visit.parts) in
    (on, put_too visit.parts old new goes ∙ ap (λ ps. with_each put_part ps (loading_in old)) whole)

-- ---- the totals are the sums, or they aren't

module _ (b : Books) (list : List MaterialTotals) (old new : PartAdder) (visited : Result Bool TableFault) (all : IsListOf b list) (none : (column : Column) (code : List ℕ) → sum_at column code old.sums.items ≡ 0)
    (there : (code : List ℕ) → has_sums code old.sums.items ≡ are_totals_for code list) (went : visited ≡ Ok true) (visit : IsVisit AddsPart {Fault = TableFault} (λ what. what (values b.content.parts)) old visited new) where
  reported : (good : Bool) → Decides good (AreSumsIn new.sums.items list) → Decides good (HasSums b)
  reported good = added_all b list old new visited good all none there went visit

  pub sums_are : AreSumsIn new.sums.items list → HasSums b
  sums_are are = (reported true (λ _. are, λ _. refl)).0 refl

  pub sums_are_not : ¬ AreSumsIn new.sums.items list → ¬ HasSums b
  sums_are_not not has = absurd (true≢false (sym ((reported false (λ h. absurd (true≢false (sym h)), λ are. absurd (not are))).1 has)))

pub loaded_as : (P Q : Type 0) (m n : Content) → (P → Q) → (¬ P → ¬ Q) → m ≡ n → (l : Loaded) → IsLoaded P m l → IsLoaded Q n l
loaded_as P Q m n holds fails same (loaded.Ledger ledger) h = (holds h.0, h.1 ∙ same)
loaded_as P Q m n holds fails same loaded.OtherSums h = fails h
loaded_as P Q m n holds fails same (loaded.NoRow row) h = absurd h
