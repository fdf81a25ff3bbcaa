-- One line.
use Rattle.std.proofs.Common.{◌≡◌, ◌+◌, ◌<◌, ◌≤◌, ◌++◌, ◌∷◌, [], ℕ, ℤ, List, Option, Ok, Err, inl, inr, refl, sym, ap, subst, arith}
use Rattle.account_desk.specs.SoleDesk.{shown_of}
use Rattle.request_reply.specs.Outcomes.{IsOutcome, OutcomeHow}
use Rattle.request_reply.specs.declared.reply.RequestOutcome.{RequestOutcome}
use Rattle.io_edge.specs.Outside.{Grows, GrowsByPrefix, Rose, SinkShown, Ticks}
use Rattle.journal_keeper.specs.Journals.{FailsToKeep, KeeperShown}
use Rattle.kept_run.specs.Lines.{Accounts, HasMore, IsAnsweredLine, Line, MayAllGoOn, NewAreReadBack, counts, texts_behind}
use Rattle.kept_run.specs.Steps.{IsLineText, IsRun, RunsLine}
use Rattle.kept_run.specs.declared.line.LineEnd.TheVariants.{KeepFault, NoMemory, WriteFault, Written}
use Rattle.spec_batch.proofs.Chains.{spent_stop, turns_counted}
use Rattle.spec_batch.specs.Batch.{NextMeans}
use Rattle.spec_batch.specs.Chain.{Chain, Shown}
use Rattle.spec_batch.specs.Reply.{Replies, asked_in}
use Rattle.spec_batch.specs.declared.desk.DeskError.{DeskError}
use Rattle.spec_batch.specs.declared.desk.DeskError.TheVariants as desk
use Rattle.spec_batch.specs.declared.desk.DeskError.TheVariants.{PassSpent}
use Rattle.spec_batch.specs.declared.desk.Front.{Front}
use Rattle.spec_core.specs.declared.user.User.{User}
use Rattle.spec_history.specs.MostTurns.{most_turns}
use Rattle.spec_json.specs.Json.{text_of}
use Rattle.spec_json.specs.TreeData.{data_of}
use Rattle.spec_site.specs.Configuration.{Site, user_at}
use Rattle.spec_time.specs.Moments.{clamped}

module _ (site : Site) (user : ℕ) (bytes : List ℕ) (before after : Accounts) {u : User} {moment : ℤ} {f0 f1 : List Front} where
  pub line_text_is : (reply : RequestOutcome) (text : List ℕ) → u ≡ user_at site user → IsOutcome u moment (asked_in bytes) f0 f1 (shown_of before) (shown_of after) (Ok reply)
      → text ≡ text_of (data_of reply.tree) ++ 10 ∷ [] → IsLineText site user bytes moment before after text
  line_text_is reply text user_is r is = record {
    made = r.made;
    reply = data_of reply.tree;
    chain = subst (λ (v : Shown). Chain (shown_of before) v r.made) (sym r.how.2) r.chain;
    few = r.few;
    replied = subst (λ (x : User). Replies x moment (asked_in bytes) r.made (data_of reply.tree)) user_is r.how.0;
    written = is;
  }

  spent_behind : (r : IsOutcome u moment (asked_in bytes) f0 f1 (shown_of before) (shown_of after) (Err PassSpent)) → r.desk.turns ≡ most_turns
  spent_behind r = by_how r.how
    where
      by_how : OutcomeHow u moment (asked_in bytes) r.made r.desk (shown_of after) (Err PassSpent) → r.desk.turns ≡ most_turns
      by_how (inl h) = absurd (let e : PassSpent ≡ desk.NoMemory = h.0 in cc)
      by_how (inr h) = (spent_stop (NextMeans u h.request moment h.steps h.rest) moment r.desk (shown_of after) h.stops).0

  -- the desk may make as many calls as a request has
  pub never_spent : before.1 + 16 < most_turns → IsOutcome u moment (asked_in bytes) f0 f1 (shown_of before) (shown_of after) (Err PassSpent) → ⊥
  never_spent may r =
      let few = r.few in
      let made = turns_counted (shown_of before) r.desk r.made r.chain in
      let spent = spent_behind r in
      let bad : ⊥ = omega (arith, may, few, made, spent) in
      bad

  pub spent_never : {e : DeskError} → e ≡ PassSpent → before.1 + 16 < most_turns → IsOutcome u moment (asked_in bytes) f0 f1 (shown_of before) (shown_of after) (Err e) → ⊥
  spent_never is may r = never_spent may (subst (λ (x : DeskError). IsOutcome u moment (asked_in bytes) f0 f1 (shown_of before) (shown_of after) (Err x)) is r)

module _ (site : Site) (user : ℕ) (bytes : List ℕ) (before after : Accounts) (told moment : ℤ) (text : List ℕ) (clamps : moment ≡ clamped told) (t : IsLineText site user bytes moment before after text)
    (places : List ℕ) (counted : places ≡ counts before.0) (back : NewAreReadBack places after.0) (go_on : MayAllGoOn after.0) where
  -- the line that was answered so
  abbrev pub line_by : Line
  line_by = record { bytes = bytes; moment = told; made = t.made; reply = t.reply; accounts = after }

  pub answered_by : IsAnsweredLine site user before line_by
  answered_by = record {
    chain = t.chain;
    few = t.few;
    replied = subst (λ (z : ℤ). Replies (user_at site user) z (asked_in bytes) t.made t.reply) clamps t.replied;
    read_back = subst (λ (p : List ℕ). NewAreReadBack p after.0) counted back;
    go_on = go_on;
  }

  abbrev pub run_by : IsRun site user bytes before after told
  run_by = record { line = line_by; is = refl; at = refl; left = refl; answered = answered_by }

  module _ {clock clock' : Option (ℕ → ℤ)} {k k' : SinkShown} {j j' : KeeperShown} (ticks : Ticks clock clock' told) (later : j.faults ≤ j'.faults) (undamaged : j'.damages ≡ j.damages) where
    pub line_written : HasMore j.told j'.told (texts_behind site.accounts places after.0) → Grows k.holds k'.holds text → k.faults ≤ k'.faults → RunsLine site user bytes before after clock clock' k k' j j' Written
    line_written kept grows sink_later = record {
      moment = told;
      ticked = ticks;
      sink_later = sink_later;
      keeper_later = later;
      undamaged = undamaged;
      how = (run_by, subst (λ (p : List ℕ). HasMore j.told j'.told (texts_behind site.accounts p after.0)) counted kept, subst (Grows k.holds k'.holds) t.written grows);
    }

    pub line_unwritten : HasMore j.told j'.told (texts_behind site.accounts places after.0) → GrowsByPrefix k.holds k'.holds text → k.faults ≤ k'.faults → Rose k.faults k'.faults → RunsLine site user bytes before after clock clock' k k' j j' WriteFault
    line_unwritten kept grows sink_later rose = record {
      moment = told;
      ticked = ticks;
      sink_later = sink_later;
      keeper_later = later;
      undamaged = undamaged;
      how = (run_by, subst (λ (p : List ℕ). HasMore j.told j'.told (texts_behind site.accounts p after.0)) counted kept, subst (GrowsByPrefix k.holds k'.holds) t.written grows, rose);
    }

    pub line_unkept : FailsToKeep j.told j'.told (texts_behind site.accounts places after.0) → Rose j.faults j'.faults → k' ≡ k → RunsLine site user bytes before after clock clock' k k' j j' KeepFault
    line_unkept fails rose same = record {
      moment = told;
      ticked = ticks;
      sink_later = let e = ap (λ (s : SinkShown). s.faults) same in omega (arith, e);
      keeper_later = later;
      undamaged = undamaged;
      how = (run_by, subst (λ (p : List ℕ). FailsToKeep j.told j'.told (texts_behind site.accounts p after.0)) counted fails, rose, same);
    }

-- memory was wanted before anything was kept or written
pub line_out_of_memory : {site : Site} {user : ℕ} {bytes : List ℕ} {before after : Accounts} {clock clock' : Option (ℕ → ℤ)} {k k' : SinkShown} {j j' : KeeperShown} → (told : ℤ) → Ticks clock clock' told
    → j.faults ≤ j'.faults → j'.damages ≡ j.damages → j'.told ≡ j.told → k' ≡ k → RunsLine site user bytes before after clock clock' k k' j j' NoMemory
line_out_of_memory told ticks later undamaged untold same = record {
  moment = told;
  ticked = ticks;
  sink_later = let e = ap (λ (s : SinkShown). s.faults) same in omega (arith, e);
  keeper_later = later;
  undamaged = undamaged;
  how = (untold, same);
}
