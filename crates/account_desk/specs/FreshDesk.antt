-- A desk over the accounts of a site, before any call.
use Rattle.std.specs.Prelude.{◌≡◌, ℕ, List, [], Option, None, Some, IfSome, length, map, slice_index_or}
use Rattle.cal_model.specs.AddedEntries.{added_signed}
use Rattle.cal_model.specs.Answer.{answer, added, unkept_answer}
use Rattle.cal_model.specs.AnswerPlaces.{answer_place, unkept_place}
use Rattle.spec_batch.specs.Chain.{Rules, Shown}
use Rattle.spec_calls.specs.declared.call.Reply.{Reply}
use Rattle.spec_history.specs.Base.{Base, no_base}
use Rattle.spec_history.specs.Signed.{written_by}
use Rattle.spec_history.specs.declared.entry.Entry.{Entry}
use Rattle.spec_site.specs.Configuration.{Site}

-- what each account of a site is opened with
abbrev pub bases : Site → List Base
bases site = map (λ a. record { account_id = a.id; zones = site.zones; generation = site.generation }) site.accounts

-- a reply that tells of entries which could not be kept says how many went before
abbrev pub IsPlaced : Option (List Entry → Reply) → Type 0
IsPlaced unkept = IfSome unkept (λ f. (h : List Entry) → (f h).place ≡ length h)

-- what accounts of calendars and events reply, and how they grow; and the reply where the entries of a call could not be kept, None where those of every call are
abbrev pub account_rules_with : (unkept : Option (List Entry → Reply)) → IsPlaced unkept → Rules
account_rules_with unkept placed = record { answer = answer; added = added; unkept = unkept; placed = answer_place; unkept_placed = placed; signed = added_signed }

-- those of accounts in memory alone: the entries of every call are kept
abbrev pub account_rules : Rules
account_rules = account_rules_with None tt

-- those of accounts whose entries are kept before they have them
abbrev pub kept_rules : Rules
kept_rules = account_rules_with (Some unkept_answer) unkept_place

-- a desk over the accounts of a site, before any call
abbrev pub fresh_desk : Site → Shown
fresh_desk site = record {
  accounts = length site.accounts;
  rules = account_rules;
  turns = 0;
  base = λ k. slice_index_or (bases site) k no_base;
  seen = λ k. [];
  author = λ k. 0;
  last = λ k. 0;
}

-- no entry is anybody else's than the desk's
abbrev pub IsSole : Shown → Type 0
IsSole s = (k : ℕ) → written_by (s.author k) (s.seen k) ≡ s.seen k
