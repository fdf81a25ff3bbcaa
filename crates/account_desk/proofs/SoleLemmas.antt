-- A call on an account of a sole desk is a call on a desk.
use Rattle.std.proofs.Common.{◌≡◌, ◌≢◌, ℕ, ℤ, ◌+◌, ◌<◌, ◌==◌, List, [], ◌++◌, None, Result, Ok, Err, IfOk, OnErr, length, refl, sym, ap, ◌∙◌, subst, arith, append-nil, set}
use Rattle.std.proofs.lemmas.List.{get_or-set_same, get_or-set_other, length-set}
use Rattle.std.proofs.lemmas.List.Elements.{All-set, All-get_or, filter-append}
use mathlib.Core.Logic.{dite}
use native.Mathlib.Decide.{ℕ_discrete}
use Rattle.spec_batch.proofs.Chains.{all_written_by}
use Rattle.spec_books.proofs.ActLemmas.{came_signed}
use Rattle.spec_books.specs.Acting.{Came}
use Rattle.cal_model.specs.AddedEntries.{added_signed}
use Rattle.cal_model.specs.Answer.{answer, added}
use Rattle.spec_history.specs.Base.{Base, no_base}
use Rattle.spec_batch.specs.Chain.{Called, StaysBeside}
use Rattle.spec_history.specs.MostTurns.{most_turns}
use Rattle.spec_history.specs.Signed.{written_by}
use Rattle.spec_calls.specs.declared.call.Call.{Call}
use Rattle.spec_calls.specs.declared.call.Reply.{Reply}
use Rattle.spec_history.specs.declared.entry.Entry.{Entry}
use Rattle.spec_history.specs.declared.stamp.Stamp.{Stamp}
use Rattle.account_desk.specs.SoleDesk.{IsSoleDesk, account_at, of_desk, shown_of}

abbrev pub stamp_after : ℕ → ℤ → Stamp
stamp_after turns moment = record { author = 0; turn = turns + 1; moment = moment }

abbrev IsOwn : Base × List Entry → Type 0
IsOwn a = written_by 0 a.1 ≡ a.1

-- what came of a call is the desk's own
still_own : (b : Base) (h h' : List Entry) (call : Call) (turns : ℕ) (moment : ℤ) {E : Type 0} (r : Result Reply E)
    → IfOk r (λ x. Came answer added None b h call (stamp_after turns moment) x h') → OnErr r (h' ≡ h) → written_by 0 h ≡ h → written_by 0 h' ≡ h'
still_own b h h' call turns moment (Ok reply) came same own =
    let more : List Entry = came.0 in
    let stamp : Stamp = stamp_after turns moment in
    let signed : written_by 0 more ≡ more = all_written_by 0 (turns + 1) more (came_signed answer added None b h call stamp reply more (added_signed b h call stamp) came.1) in
    ap (written_by 0) came.2 ∙ (filter-append (λ (e : Entry). e.author == 0) h more ∙ ((λ k. own k ++ signed k) ∙ sym came.2))
still_own b h h' call turns moment (Err e) came same own = ap (written_by 0) same ∙ (own ∙ sym same)

-- the account of number k of a desk became a'
module _ (accounts : List (Base × List Entry)) (turns k : ℕ) (a' : Base × List Entry) (call : Call) (moment : ℤ) (there : k < length accounts) where
  abbrev a : Base × List Entry
  a = account_at accounts k

  here : account_at (set accounts k a') k ≡ a'
  here = get_or-set_same accounts k a' (no_base, []) there

  elsewhere : (j : ℕ) → j ≢ k → account_at (set accounts k a') j ≡ account_at accounts j
  elsewhere j other = get_or-set_other accounts k j a' (no_base, []) other

  same_bases : a'.0 ≡ a.0 → (j : ℕ) → (account_at (set accounts k a') j).0 ≡ (account_at accounts j).0
  same_bases same j = dite (ℕ_discrete j k)
      (λ e. subst (λ (i : ℕ). (account_at (set accounts k a') i).0 ≡ (account_at accounts i).0) (sym e) (ap (λ (x : Base × List Entry). x.0) here ∙ same))
      (λ other. ap (λ (x : Base × List Entry). x.0) (elsewhere j other))

  beside : a'.0 ≡ a.0 → StaysBeside (shown_of (accounts, turns)) (shown_of (set accounts k a', turns + 1)) k
  beside same = record {
    accounts = length-set accounts k a';
    rules = refl;
    turns = refl;
    base = same_bases same;
    author = λ j. refl;
    seen = λ j other. ap (λ (x : Base × List Entry). x.1) (elsewhere j other);
    last = λ j other. omega arith;
  }

  called : {E : Type 0} (r : Result Reply E) → a'.0 ≡ a.0 → IfOk r (λ x. Came answer added None a.0 a.1 call (stamp_after turns moment) x a'.1) → OnErr r (a'.1 ≡ a.1) → turns < most_turns
      → Called (shown_of (accounts, turns)) (shown_of (set accounts k a', turns + 1)) k call moment (of_desk r)
  called (Ok reply) same came unchanged few = (
    few,
    record {
      beside = beside same;
      history = a.1;
      begins = ([], sym (append-nil a.1), refl);
      later = omega arith;
      came = came.0;
      acts = came.1;
      seen = ap (λ (x : Base × List Entry). x.1) here ∙ came.2;
    },
  )
  called (Err e) same came unchanged few = (
    few,
    record { beside = beside same; begins = ([], ap (λ (x : Base × List Entry). x.1) here ∙ (unchanged ∙ sym (append-nil a.1)), refl); later = omega arith },
  )

  -- what the account promises of the call
  pub record Acted {E : Type 0} (r : Result Reply E) (old : Base × List Entry) : Type 0 where
    pub base : a'.0 ≡ old.0
    pub came : IfOk r (λ x. Came answer added None old.0 old.1 call (stamp_after turns moment) x a'.1)
    pub unchanged : OnErr r (a'.1 ≡ old.1)

  pub sole_called : {E : Type 0} (r : Result Reply E) (old : Base × List Entry) → old ≡ account_at accounts k → Acted r old → turns < most_turns
      → Called (shown_of (accounts, turns)) (shown_of (set accounts k a', turns + 1)) k call moment (of_desk r)
  sole_called r old is acted few =
      let x : Acted r (account_at accounts k) = subst (Acted r) is acted in
      called r x.base x.came x.unchanged few

  pub still_sole : {E : Type 0} (r : Result Reply E) (old : Base × List Entry) → old ≡ account_at accounts k → Acted r old → turns < most_turns
      → IsSoleDesk accounts turns → IsSoleDesk (set accounts k a') (turns + 1)
  still_sole r old is acted few sole =
      let x : Acted r (account_at accounts k) = subst (Acted r) is acted in
      record {
        few = (let l = length-set accounts k a' in let f = sole.few in omega arith);
        within = omega arith;
        own = All-set IsOwn accounts k a' (still_own a.0 a.1 a'.1 call turns moment r x.came x.unchanged (All-get_or IsOwn accounts k (no_base, []) there sole.own)) sole.own;
      }
