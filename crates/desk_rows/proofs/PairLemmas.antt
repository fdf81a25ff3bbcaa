-- A call on the second account of a pair is a call on a desk.
use Rattle.std.proofs.Common.{◌≡◌, ◌≢◌, ℕ, ℤ, ◌-◌, ◌<◌, ◌==◌, ◌^◌, List, [], ◌++◌, None, Result, Ok, Err, IfOk, OnErr, refl, sym, ap, ◌∙◌, subst, arith, append-nil, ne_eqb, if◌then◌else◌}
use Rattle.cal_model.specs.Answer.{answer, added}
use Rattle.spec_books.specs.Acting.{Came}
use Rattle.spec_history.specs.Base.{Base}
use Rattle.spec_batch.specs.Chain.{Called, StaysBeside}
use Rattle.spec_history.specs.MostTurns.{most_turns}
use Rattle.spec_calls.specs.declared.call.Call.{Call}
use Rattle.spec_calls.specs.declared.call.Reply.{Reply}
use Rattle.spec_history.specs.declared.entry.Entry.{Entry}
use Rattle.spec_history.specs.declared.stamp.Stamp.{Stamp}
use Rattle.account_desk.specs.SoleDesk.{of_desk}
use Rattle.desk_rows.specs.Pair.{pair_shown}

-- the stamp of the next call of a desk that makes so many calls more
abbrev pub stamp_next : ℕ → ℤ → Stamp
stamp_next left moment = record { author = 0; turn = most_turns - (left - 1); moment = moment }

module _ (first h h' : Base × List Entry) (left : ℕ) (some : 0 < left) (few : left < 2 ^ 32) (call : Call) (moment : ℤ) where
  beside : h'.0 ≡ h.0 → StaysBeside (pair_shown first h left) (pair_shown first h' (left - 1)) 1
  beside base = record {
    accounts = refl;
    rules = refl;
    turns = omega (arith, some, few);
    base = λ j. ap (λ (b : Base). if j == 0 then first.0 else b) base;
    author = λ j. refl;
    seen = λ j other. rw (ne_eqb j 1 other) refl;
    last = λ j other. omega (arith, some, few);
  }

  called : {E : Type 0} (r : Result Reply E) → h'.0 ≡ h.0 → IfOk r (λ x. Came answer added None h.0 h.1 call (stamp_next left moment) x h'.1) → OnErr r (h'.1 ≡ h.1)
      → Called (pair_shown first h left) (pair_shown first h' (left - 1)) 1 call moment (of_desk r)
  called (Ok reply) base came same = (
    omega (arith, some, few),
    record { beside = beside base; history = h.1; begins = ([], sym (append-nil h.1), refl); later = omega (arith, some, few); came = came.0; acts = came.1; seen = came.2 },
  )
  called (Err e) base came same =
      (omega (arith, some, few), record { beside = beside base; begins = ([], same ∙ sym (append-nil h.1), refl); later = omega (arith, some, few) })

  pub second_called : {E : Type 0} (account : ℕ) (stamp : Stamp) (r : Result Reply E) → account < 2 → account ≢ 0 → stamp ≡ stamp_next left moment → h'.0 ≡ h.0
      → IfOk r (λ x. Came answer added None h.0 h.1 call stamp x h'.1) → OnErr r (h'.1 ≡ h.1)
      → Called (pair_shown first h left) (pair_shown first h' (left - 1)) account call moment (of_desk r)
  second_called account stamp r below other next base came same =
      let one_is : 1 ≡ account = grind (arith, below, other) in
      subst (λ (k : ℕ). Called (pair_shown first h left) (pair_shown first h' (left - 1)) k call moment (of_desk r)) one_is
      (called r base (subst (λ (s : Stamp). IfOk r (λ x. Came answer added None h.0 h.1 call s x h'.1)) next came) same)

-- the same of the first account
module _ (h h' second : Base × List Entry) (left : ℕ) (some : 0 < left) (few : left < 2 ^ 32) (call : Call) (moment : ℤ) where
  beside_first : h'.0 ≡ h.0 → StaysBeside (pair_shown h second left) (pair_shown h' second (left - 1)) 0
  beside_first base = record {
    accounts = refl;
    rules = refl;
    turns = omega (arith, some, few);
    base = λ j. ap (λ (b : Base). if j == 0 then b else second.0) base;
    author = λ j. refl;
    seen = λ j other. rw (ne_eqb j 0 other) refl;
    last = λ j other. omega (arith, some, few);
  }

  first_called_by : {E : Type 0} (r : Result Reply E) → h'.0 ≡ h.0 → IfOk r (λ x. Came answer added None h.0 h.1 call (stamp_next left moment) x h'.1) → OnErr r (h'.1 ≡ h.1)
      → Called (pair_shown h second left) (pair_shown h' second (left - 1)) 0 call moment (of_desk r)
  first_called_by (Ok reply) base came same = (
    omega (arith, some, few),
    record { beside = beside_first base; history = h.1; begins = ([], sym (append-nil h.1), refl); later = omega (arith, some, few); came = came.0; acts = came.1; seen = came.2 },
  )
  first_called_by (Err e) base came same =
      (omega (arith, some, few), record { beside = beside_first base; begins = ([], same ∙ sym (append-nil h.1), refl); later = omega (arith, some, few) })

  pub first_called : {E : Type 0} (account : ℕ) (stamp : Stamp) (r : Result Reply E) → 0 ≡ account → stamp ≡ stamp_next left moment → h'.0 ≡ h.0
      → IfOk r (λ x. Came answer added None h.0 h.1 call stamp x h'.1) → OnErr r (h'.1 ≡ h.1)
      → Called (pair_shown h second left) (pair_shown h' second (left - 1)) account call moment (of_desk r)
  first_called account stamp r zero_is next base came same =
      subst (λ (k : ℕ). Called (pair_shown h second left) (pair_shown h' second (left - 1)) k call moment (of_desk r)) zero_is
      (first_called_by r base (subst (λ (s : Stamp). IfOk r (λ x. Came answer added None h.0 h.1 call s x h'.1)) next came) same)
