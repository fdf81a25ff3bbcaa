-- What comes of a call whose entries are kept before the account has them.
use Rattle.std.proofs.Common.{◌≡◌, ◌∙◌, ◌++◌, [], ℕ, List, Option, Some, None, Result, Ok, Err, IfOk, ap, append-nil, inl, inr, refl, sym}
use Rattle.account_core.specs.Kept.{SetCame, StagedCame}
use Rattle.cal_model.specs.Answer.{added, answer, answer_to, answered, changes_by, entries_from, ground, refused, unkept_answer, unless_error, unless_refused}
use Rattle.cal_model.specs.SetReply.{set_arguments}
use Rattle.cal_model.specs.Sets.{new_ids, objects_of, set_changes, set_refusal}
use Rattle.spec_books.specs.Acting.{Came}
use Rattle.spec_calls.specs.declared.call.Asks.{Asks}
use Rattle.spec_calls.specs.declared.call.Call.{Call}
use Rattle.spec_calls.specs.declared.call.MethodError.{MethodError}
use Rattle.spec_calls.specs.declared.call.Reply.{Reply}
use Rattle.spec_calls.specs.declared.call.SetArguments.{SetArguments}
use Rattle.spec_history.specs.Base.{Base}
use Rattle.spec_history.specs.History.{changes_of}
use Rattle.spec_history.specs.declared.entry.Change.{Change}
use Rattle.spec_history.specs.declared.entry.Entry.{Entry}
use Rattle.spec_history.specs.declared.stamp.Stamp.{Stamp}

module _ (unkept : Option (List Entry → Reply)) (base : Base) (h : List Entry) where
  -- a call that changes nothing
  pub looked : (call : Call) (stamp : Stamp) (asks : Asks) {E : Type 0} (r : Result Reply E) → call.asks ≡ asks → changes_by base h stamp.moment call.created asks ≡ []
      → IfOk r (λ x. x ≡ answer_to base h stamp.moment call.created asks) → IfOk r (λ x. Came answer added unkept base h call stamp x h)
  looked call stamp asks (Ok x) is none replied = (
    added base h call stamp,
    inl (replied ∙ sym (ap (answer_to base h stamp.moment call.created) is), refl),
    sym (ap (λ (a : Asks). h ++ entries_from stamp 0 (changes_by base h stamp.moment call.created a)) is ∙ ap (λ (cs : List Change). h ++ entries_from stamp 0 cs) none ∙ append-nil h),
  )
  looked call stamp asks (Err e) is none replied = tt

  module _ (created : List (List ℕ × List ℕ)) (q : SetArguments) (stamp : Stamp) where
    abbrev refusal : Option MethodError
    refusal = set_refusal base.generation q.kind (changes_of h) (objects_of q) q.if_in_state q.remove_events

    abbrev changes : List Change
    changes = set_changes (ground base h stamp.moment created) q.kind created (changes_of h) (objects_of q)

    abbrev reply_to : Reply
    reply_to = answered h (set_arguments (ground base h stamp.moment created) q.kind created (changes_of h) (objects_of q)) (new_ids (ground base h stamp.moment created) q.kind created (changes_of h) (objects_of q))

    -- a set that isn't refused
    pub carried_out : (cs : List Change) (reply r : Reply) (h' : List Entry) → refusal ≡ None → reply ≡ reply_to → cs ≡ changes → StagedCame unkept h cs stamp reply r h' → SetCame unkept created base h q stamp r h'
    carried_out cs reply r h' none is staged (came, inl (same, all), grown) = (
      came,
      inl (same ∙ is ∙ sym (ap (λ e. unless_error h e reply_to) none), all ∙ ap (entries_from stamp 0) staged ∙ sym (ap (λ e. entries_from stamp 0 (unless_refused e changes)) none)),
      grown,
    )
    carried_out cs reply r h' none is staged (came, inr told, grown) = (came, inr told, grown)

    -- one that is
    pub refused_whole : (e : MethodError) (r : Reply) (h' : List Entry) → refusal ≡ Some e → r ≡ refused h e → h' ≡ h → SetCame unkept created base h q stamp r h'
    refused_whole e r h' some is same = (
      [],
      inl (is ∙ sym (ap (λ x. unless_error h x reply_to) some), sym (ap (λ x. entries_from stamp 0 (unless_refused x changes)) some)),
      same ∙ sym (append-nil h),
    )

-- what comes of staged changes that were kept, and of those that were not
pub kept_came : (unkept : Option (List Entry → Reply)) (h : List Entry) (cs : List Change) (stamp : Stamp) (reply : Reply) (h' : List Entry) → h' ≡ h ++ entries_from stamp 0 cs → StagedCame unkept h cs stamp reply reply h'
kept_came unkept h cs stamp reply h' grown = (entries_from stamp 0 cs, inl (refl, refl), grown)

pub unkept_came : (unkept : Option (List Entry → Reply)) (h : List Entry) (cs : List Change) (stamp : Stamp) (reply r : Reply) (h' : List Entry) → unkept ≡ Some unkept_answer → r ≡ unkept_answer h → h' ≡ h
    → StagedCame unkept h cs stamp reply r h'
unkept_came unkept h cs stamp reply r h' told is same = ([], inr ((unkept_answer, told, is), refl), same ∙ sym (append-nil h))
