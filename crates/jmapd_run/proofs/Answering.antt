-- What was read, answered and put together is an answer.
use Rattle.std.proofs.Common.{◌≡◌, ◌≤◌, ◌+◌, ◌++◌, ◌∷◌, [], ℕ, ℤ, List, Bool, true, false, Result, Ok, Err, IfOk, inl, inr, length, ap, arith, subst, sym, ◌∙◌}
use Rattle.std.specs.Io.KnownBytes.{Consumes, IsAtEnd}
use Rattle.std.specs.Prelude.{if◌then◌else◌}
use Rattle.spec_batch.proofs.Chains.{spent_stop, turns_counted}
use Rattle.spec_time.specs.Moments.{clamped}
use Rattle.spec_batch.specs.Reply.{Replies, asked_in}
use Rattle.spec_core.specs.declared.limits.TheConstants.{MAX_SIZE_REQUEST}
use Rattle.spec_batch.specs.Batch.{NextMeans}
use Rattle.spec_batch.specs.Chain.{Chain, Shown}
use Rattle.account_desk.specs.FreshDesk.{IsSole, fresh_desk}
use Rattle.jmapd_run.specs.Headline.{AnswersInput, IsAnswer, Surroundings}
use Rattle.spec_json.specs.Json.{text_of}
use Rattle.spec_history.specs.MostTurns.{most_turns}
use Rattle.io_edge.specs.Outside.{Grows, Ticks}
use Rattle.spec_site.specs.Configuration.{Site, user_at}
use Rattle.spec_json.specs.TreeData.{data_of}
use Rattle.spec_batch.specs.declared.desk.DeskError.{DeskError}
use Rattle.spec_batch.specs.declared.desk.DeskError.TheVariants.{NoMemory, PassSpent}
use Rattle.spec_batch.specs.declared.desk.Front.{Front}
use Rattle.jmapd_run.specs.declared.status.Status.{Status}
use Rattle.jmapd_run.specs.declared.status.Status.TheVariants.{Done, Refused}
use Rattle.spec_core.specs.declared.user.User.{User}
use Rattle.request_reply.specs.Outcomes.{IsOutcome, OutcomeHow}
use Rattle.request_reply.specs.declared.reply.RequestOutcome.{RequestOutcome}
use Rattle.jmapd_run.specs.Runs.{BatchEnds}
use Rattle.jmapd_run.specs.declared.batch.Answer.{Answer}

module _ (site : Site) (user : ℕ) (bytes : List ℕ) {u : User} {moment : ℤ} {f0 f1 : List Front} {d0 d1 : Shown} where
  answered : (reply : RequestOutcome) (a : Answer) → u ≡ user_at site user → d0 ≡ fresh_desk site → IsSole d1 → IsOutcome u moment (asked_in bytes) f0 f1 d0 d1 (Ok reply)
      → a.text.items ≡ text_of (data_of reply.tree) ++ 10 ∷ [] → a.is_refusal ≡ reply.is_refusal → IsAnswer site user moment bytes a.is_refusal a.text.items
  answered reply a user_is fresh sole r text refusal = record {
    made = r.made;
    desk = d1;
    chain = subst (λ (y : Shown × Shown). Chain y.0 y.1 r.made) (λ i. (fresh i, sym r.how.2 i)) r.chain;
    sole = sole;
    reply = data_of reply.tree;
    replied = subst (λ (x : User). Replies x moment (asked_in bytes) r.made (data_of reply.tree)) user_is r.how.0;
    refusal = r.how.1 ∙ sym refusal;
    written = text;
  }

  pub answer_is : {E : Type 0} (reply : RequestOutcome) (r : Result Answer E) → u ≡ user_at site user → d0 ≡ fresh_desk site → IsSole d1 → IsOutcome u moment (asked_in bytes) f0 f1 d0 d1 (Ok reply)
      → IfOk r (λ a. a.text.items ≡ text_of (data_of reply.tree) ++ 10 ∷ []) → IfOk r (λ a. a.is_refusal ≡ reply.is_refusal) → IfOk r (λ a. IsAnswer site user moment bytes a.is_refusal a.text.items)
  answer_is reply (Ok a) user_is fresh sole replied text refusal = answered reply a user_is fresh sole replied text refusal
  answer_is reply (Err e) user_is fresh sole replied text refusal = tt

  spent_behind : (r : IsOutcome u moment (asked_in bytes) f0 f1 d0 d1 (Err PassSpent)) → r.desk.turns ≡ most_turns
  spent_behind r = by_how r.how
    where
      by_how : OutcomeHow u moment (asked_in bytes) r.made r.desk d1 (Err PassSpent) → r.desk.turns ≡ most_turns
      by_how (inl h) = absurd (let e : PassSpent ≡ NoMemory = h.0 in cc)
      by_how (inr h) = (spent_stop (NextMeans u h.request moment h.steps h.rest) moment r.desk d1 h.stops).0

  -- a fresh desk has turns left for a request
  pub never_spent : d0 ≡ fresh_desk site → IsOutcome u moment (asked_in bytes) f0 f1 d0 d1 (Err PassSpent) → ⊥
  never_spent fresh r =
      let none = ap (λ (d : Shown). d.turns) fresh in
      let few = r.few in
      let made = turns_counted d0 r.desk r.made r.chain in
      let spent = spent_behind r in
      let bad : ⊥ = omega (arith, none, few, made, spent) in
      bad

  pub spent_never : {e : DeskError} → e ≡ PassSpent → d0 ≡ fresh_desk site → IsOutcome u moment (asked_in bytes) f0 f1 d0 d1 (Err e) → ⊥
  spent_never is fresh r = never_spent fresh (subst (λ (x : DeskError). IsOutcome u moment (asked_in bytes) f0 f1 d0 d1 (Err x)) is r)

module _ {site : Site} {user : ℕ} {x x' : Surroundings} where
  pub answers_with : (bytes slice text : List ℕ) (told moment : ℤ) (is_refusal : Bool)
      → Consumes x.input.left x'.input.left bytes → length bytes ≤ MAX_SIZE_REQUEST + 1 → (length bytes ≤ MAX_SIZE_REQUEST → IsAtEnd x'.input.left) → Ticks x.clock x'.clock told → slice ≡ bytes → moment ≡ clamped told
      → IsAnswer site user moment slice is_refusal text → AnswersInput site user x x' is_refusal text
  answers_with bytes slice text told moment is_refusal consumed most whole ticked same clamps answer = record {
    bytes = bytes;
    consumed = consumed;
    most = most;
    whole = whole;
    moment = told;
    ticked = ticked;
    answer = subst (λ (y : ℤ × List ℕ). IsAnswer site user y.0 y.1 is_refusal text) (λ i. (clamps i, same i)) answer;
  }

  pub batch_ends : {status : Status} (is_refusal : Bool) (text : List ℕ) → status ≡ (if is_refusal then Refused else Done)
      → AnswersInput site user x x' is_refusal text → Grows x.output.holds x'.output.holds text → BatchEnds x x' site user status
  batch_ends true text is answers grows = subst (BatchEnds x x' site user) (sym is) (text, answers, grows)
  batch_ends false text is answers grows = subst (BatchEnds x x' site user) (sym is) (text, answers, grows)
