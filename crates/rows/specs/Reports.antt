-- A counter book that also tells of its entries.
use Rattle.std.specs.Prelude.{ℕ, ◌==◌, ◌+◌, ◌-◌, List, [], length, count_by, slice_get, Option, Some, None}
use Rattle.spec_history.specs.Signed.{AreSigned}
use Rattle.spec_history.specs.declared.entry.Entry.{Entry}
use Rattle.spec_history.specs.declared.stamp.Stamp.{Stamp}
use Rattle.account_lock.specs.Counter.{sum_of_ids, amount_counted, amount_added, amount_added_signed}
use Rattle.rows.specs.declared.reporting_book.Answer.{Answer}
use Rattle.rows.specs.declared.reporting_book.Answer.TheVariants.{Sum, Told}
use Rattle.rows.specs.declared.reporting_book.Question.{Question}
use Rattle.rows.specs.declared.reporting_book.Question.TheVariants.{Add, Tell}
use Rattle.rows.specs.declared.reporting_book.Report.{Report}
use Rattle.rows.specs.declared.reporting_book.Signature.{Signature}

abbrev pub signature_of : Option Entry → Option Signature
signature_of None = None
signature_of (Some e) = Some (record { author = e.author; turn = e.turn })

-- the entries as a whole, and the number of those of one author
abbrev pub report_of : List Entry → ℕ → Report
report_of h author = record { entries = length h; of_author = count_by (λ e. e.author == author) h; first = signature_of (slice_get h 0); last = signature_of (slice_get h (length h - 1)) }

abbrev pub answer_of : List Entry → Question → Answer
answer_of h (Add n) = Sum (sum_of_ids h + amount_counted h n)
answer_of h (Tell author) = Told (report_of h author)

abbrev pub reported_by : List Entry → Question → Stamp → List Entry
reported_by h (Add n) s = amount_added h n s
reported_by h (Tell _) s = []

pub added_signed : (h : List Entry) (q : Question) (s : Stamp) → AreSigned s.author s.turn (reported_by h q s)
added_signed h (Add n) s = amount_added_signed h n s
added_signed h (Tell _) s = tt
