-- What is live at an earlier state.
use Rattle.std.proofs.Common.{◌≡◌, ℕ, zero, suc, List, [], ◌∷◌, Bool, true, false, cond, is_some, take, map, filter, refl, sym, ap, ◌∙◌, None}
use Rattle.std.proofs.Math.Seq.{take-nil}
use Rattle.spec_history.specs.History.{is_kind, live_object}
use Rattle.spec_history.specs.Pages.{is_live, mention_of, mentions}
use Rattle.spec_history.specs.declared.entry.Change.{Change}
use Rattle.spec_history.specs.declared.entry.Kind.{Kind}
use Rattle.object_log.proofs.LawLemmas.{live_objects}
use Rattle.object_log.proofs.MentionLemmas.{live_from}

take_map : (k : ℕ) (cs : List Change) → take k (map mention_of cs) ≡ map mention_of (take k cs)
take_map zero cs = refl
take_map (suc k) [] = refl
take_map (suc k) (c ∷ cs) = ap (λ l. mention_of c ∷ l) (take_map k cs)

kept_step : (p : Change → Bool) (k : ℕ) (c : Change) (cs : List Change) (b : Bool) → p c ≡ b → ((n : ℕ) → filter p (take n cs) ≡ take n cs) → filter p (take k (cond b (c ∷ cs) cs)) ≡ take k (cond b (c ∷ cs) cs)
kept_step p zero c cs true e h = refl
kept_step p (suc k) c cs true e h = ap (λ b. cond b (c ∷ filter p (take k cs)) (filter p (take k cs))) e ∙ ap (λ l. c ∷ l) (h k)
kept_step p k c cs false e h = h k

filter_kept : (p : Change → Bool) (cs : List Change) (k : ℕ) → filter p (take k (filter p cs)) ≡ take k (filter p cs)
filter_kept p [] k = ap (λ l. filter p l) (take-nil k) ∙ sym (take-nil k)
filter_kept p (c ∷ cs) k = kept_step p k c (filter p cs) (p c) refl (filter_kept p cs)

pub live_earlier : (cs : List Change) (kind : Kind) (k id : ℕ) → is_live (mentions kind cs) k id ≡ is_some (live_object (take k (filter (λ c. is_kind kind c.kind) cs)) kind id)
live_earlier cs kind k id =
    let p = λ (c : Change). is_kind kind c.kind in
    ap (λ l. live_from false l id) (take_map k (filter p cs) ∙ ap (λ l. map mention_of l) (sym (filter_kept p cs k))) ∙ live_objects (take k (filter p cs)) None kind id
