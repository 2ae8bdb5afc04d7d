-- What a history says of the content that it gives.
use Rattle.std.proofs.Common.{◌≡◌, ℕ, zero, suc, List, [], ◌∷◌, ◌++◌, refl, sym, ap, subst, ◌∙◌, inl, inr}
use Rattle.std.specs.Prelude.{None}
use Rattle.std.specs.Option.{option_map}
use Rattle.std.specs.Ordering.{nat_cmp}
use Rattle.std.specs.FinMap.{FinMap, get-empty}
use Rattle.cut_measure.specs.Codes.{code_cmp}
use Rattle.cut_measure.specs.Names.{name_cmp}
use Rattle.shop_records.specs.declared.journal.Entry.{Entry as EntryRow}
use Rattle.shop_records.specs.declared.changes.Change.{Change}
use Rattle.shop_records.specs.declared.messages.Message.{Message}
use Rattle.shop_records.specs.declared.messages.Command.{Command}
use Rattle.shop_records.specs.Messages.{Texts}
use Rattle.shop_records.specs.Readings.{Reading}
use Rattle.shop_records.specs.Content.{Content, fresh, changed, forgotten}
use Rattle.shop_machine.specs.Machine.{Reads, refusal_of, Makes, keeping, keeping_at, Effect, effects}
use Rattle.shop_records.specs.WellFormed.{IsWellFormed}
use Rattle.shop_machine.specs.History.{Entry, effects_of, Gives, MayForget, nth_line}
use Rattle.shop_records.proofs.Basics.{none_some}
use Rattle.shop_machine.proofs.OrderedLines.{ordered_as}
use Rattle.shop_machine.proofs.Entered.{with_entries}
use Rattle.shop_machine.proofs.Accounts.{Follows}
use Rattle.shop_machine.proofs.StaysWellFormed.{by_message}

module _ (texts : Texts) (message : Message) (earlier : List Effect) (old : Content) (well_formed : IsWellFormed texts old) (f : Follows earlier old) where
  pub by_entry : (read : Reading) (change : Change) (command : Command) → Reads texts old command read → refusal_of old command read ≡ None → Makes old command read change
      → Follows (effects command read ++ earlier) (changed old (keeping texts message change))
  by_entry read change command reads allowed makes = by_message texts message earlier old well_formed f command read change reads allowed makes

no_line : (number : ℕ) → nth_line number [] ≡ None
no_line zero = refl
no_line (suc n) = refl

from_start : Follows [] fresh
from_start = record {
  acts = refl;
  numbers = refl;
  lines = λ number. ap (option_map ordered_as) (get-empty nat_cmp number) ∙ sym (no_line number);
  params = λ code m g. absurd (none_some m (sym (get-empty code_cmp code) ∙ g));
  rows = λ n p g. absurd (none_some p (sym (get-empty name_cmp n) ∙ g));
  jobs = λ k job g. absurd (none_some job (sym (get-empty nat_cmp k) ∙ g));
  wholes = λ unit i. absurd i;
  cells = λ unit i. absurd i;
  over = λ n p job g cut. absurd (none_some p (sym (get-empty name_cmp n) ∙ g));
}

-- what effects say of a content they say whatever its entries are
follows_entries : (done : List Effect) (content : Content) (entries : FinMap nat_cmp EntryRow) → Follows done content → Follows done (with_entries entries content)
follows_entries done content entries f = record {
  acts = f.acts;
  numbers = f.numbers;
  lines = f.lines;
  params = f.params;
  rows = f.rows;
  jobs = f.jobs;
  wholes = f.wholes;
  cells = f.cells;
  over = f.over;
}

-- and wherever the work on its jobs halted
follows_forgotten : (done : List Effect) (content : Content) → Follows done content → Follows done (forgotten content)
follows_forgotten done content f = record {
  acts = f.acts;
  numbers = f.numbers;
  lines = f.lines;
  params = f.params;
  rows = f.rows;
  jobs = f.jobs;
  wholes = f.wholes;
  cells = f.cells;
  over = f.over;
}

follows_left : (done : List Effect) (left content : Content) → MayForget left content → Follows done left → Follows done content
follows_left done left content (inl same) f = subst (Follows done) (sym same) f
follows_left done left content (inr same) f = subst (Follows done) (sym same) (follows_forgotten done left f)

-- where each content that a history gives is well-formed
module _ (texts : Texts) (well_formed : (history : List Entry) (content : Content) → Gives texts history content → IsWellFormed texts content) where
  pub follows : (history : List Entry) (content : Content) → Gives texts history content → Follows (effects_of history) content
  follows [] content given = subst (Follows []) (sym given) from_start
  follows (entry ∷ earlier) content (before, answer, given, is_message, new, left, accepts, forgets) =
      follows_left (effects_of (entry ∷ earlier)) left content forgets
      (subst (Follows (effects_of (entry ∷ earlier))) (sym accepts.becomes)
      (follows_entries (effects_of (entry ∷ earlier)) (changed before (keeping texts entry.message accepts.change))
      (changed before (keeping_at texts accepts.at before entry.message accepts.change)).entries
      (by_entry texts entry.message (effects_of earlier) before (well_formed earlier before given) (follows earlier before given)
      entry.read accepts.change entry.message.command accepts.reads accepts.allowed accepts.makes)))
