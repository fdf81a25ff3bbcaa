-- Equal messages on histories with equal changes have equal responses.
use Rattle.std.proofs.Common.{◌≡◌, ℕ, ℤ, zero, suc, List, [], ◌∷◌, ◌++◌, Bool, Option, Some, None, refl, sym, ap, ◌∙◌, subst}
use Rattle.spec_batch.specs.Reply.{Replies, asked_in}
use Rattle.spec_time.specs.Moments.{clamped}
use Rattle.spec_batch.specs.Chain.{Made, Shown}
use Rattle.spec_history.specs.History.{changes_of}
use Rattle.spec_http.specs.Messages.{Message}
use Rattle.spec_http.specs.Responses.{response_text}
use Rattle.spec_connection.specs.Routes.{Route, api, direct, route}
use Rattle.spec_connection.specs.Answered.{Ticked}
use Rattle.spec_connection.specs.Exchanges.{AllFit, Fits, FitsApi, FitsDirect, Exchange, all_bytes, all_made, all_moments, api_response, at_once, by_calls, closes, messages_of}
use Rattle.spec_site.specs.Configuration.{Site, user_at}
use Rattle.spec_history.specs.declared.entry.Entry.{Entry}
use Rattle.account_desk.specs.Determined.{AreAlike, ConnectionsAreDetermined}
use Rattle.account_desk.proofs.PlayLemmas.{Played, after, played, played_first, played_rest}
use Rattle.account_desk.proofs.ReplyLemmas.{SameChanges, same_replies}

-- a clock that was to give these moments gave those first
abbrev Gave : (ℕ → ℤ) → List ℤ → Type 0
Gave clock ms = (left : Option (ℕ → ℤ)) × Ticked (Some clock) left ms

gave_first : (clock : ℕ → ℤ) (left : Option (ℕ → ℤ)) (m : ℤ) (ms : List ℤ) → Ticked (Some clock) left (m ∷ ms) → clock zero ≡ m
gave_first clock None m ms t = absurd t
gave_first clock (Some now) m ms t = t zero

gave_rest : (clock : ℕ → ℤ) (left : Option (ℕ → ℤ)) (m : ℤ) (ms : List ℤ) → Ticked (Some clock) left (m ∷ ms) → Ticked (Some (λ n. clock (suc n))) left ms
gave_rest clock None m ms t = absurd t
gave_rest clock (Some now) m ms t = λ n. t (suc n)

module _ (site : Site) (d d' : Shown) (desks : AreAlike d d') where
  -- what two exchanges led to, where their calls were made from these histories and their moments were the first of this clock
  record AlikeExchanges (clock : ℕ → ℤ) (now now' : ℕ → List Entry) (t t' : Exchange) (rest rest' : List ℤ) : Type 0 where
    pub bytes : t.bytes ≡ t'.bytes
    pub same_after : SameChanges (after now t.made) (after now' t'.made)
    pub later : ℕ → ℤ
    pub gave : Gave later rest
    pub gave' : Gave later rest'

  module _ (close : Bool) (clock : ℕ → ℤ) (now now' : ℕ → List Entry) (same : SameChanges now now') (t t' : Exchange) (rest rest' : List ℤ)
      (said : t.message ≡ t'.message) (gave : Gave clock (t.moments ++ rest)) (gave' : Gave clock (t'.moments ++ rest')) where
    routes : (r r' : Route) → route site close t.message ≡ r → route site close t'.message ≡ r' → r ≡ r'
    routes r r' is is' = sym is ∙ (ap (route site close) said ∙ is')

    direct_alike : FitsDirect site close t → FitsDirect site close t' → AlikeExchanges clock now now' t t' rest rest'
    direct_alike f f' = record {
      bytes = (let r = routes (direct f.response) (direct f'.response) f.routed f'.routed in let same_response : f.response ≡ f'.response = cc in f.shows ∙ (ap response_text same_response ∙ sym f'.shows));
      same_after = λ k. subst (λ (l : List Made). changes_of (after now l k) ≡ changes_of (after now' t'.made k)) (sym f.uncalled)
          (subst (λ (l : List Made). changes_of (now k) ≡ changes_of (after now' l k)) (sym f'.uncalled) (same k));
      later = clock;
      gave = subst (λ (ms : List ℤ). Gave clock (ms ++ rest)) f.unread gave;
      gave' = subst (λ (ms : List ℤ). Gave clock (ms ++ rest')) f'.unread gave';
    }

    api_alike : FitsApi site close t → FitsApi site close t' → Played d now t.made → Played d' now' t'.made → AlikeExchanges clock now now' t t' rest rest'
    api_alike f f' p p' =
        let user : f.user ≡ f'.user = (let r = routes (api f.user) (api f'.user) f.routed f'.routed in cc) in
        let ticks : Ticked (Some clock) gave.0 (f.moment ∷ rest) = subst (λ (ms : List ℤ). Ticked (Some clock) gave.0 (ms ++ rest)) f.read gave.1 in
        let ticks' : Ticked (Some clock) gave'.0 (f'.moment ∷ rest') = subst (λ (ms : List ℤ). Ticked (Some clock) gave'.0 (ms ++ rest')) f'.read gave'.1 in
        let moment : f.moment ≡ f'.moment = sym (gave_first clock gave.0 f.moment rest ticks) ∙ gave_first clock gave'.0 f'.moment rest' ticks' in
        let replied : Replies (user_at site f.user) (clamped f.moment) (asked_in t.message.body) t'.made f'.reply =
        subst (λ (y : (ℕ × ℤ) × Message). Replies (user_at site y.0.0) (clamped y.0.1) (asked_in y.1.body) t'.made f'.reply) (λ i. ((sym user i, sym moment i), sym said i)) f'.replied in
        let led = same_replies d d' desks (user_at site f.user) (clamped f.moment) now now' same (asked_in t.message.body) t.made t'.made f.reply f'.reply f.replied replied p p' in
        record {
          bytes = f.shows ∙ ((λ i. response_text (api_response close (asked_in (said i).body) (led.0 i))) ∙ sym f'.shows);
          same_after = led.1;
          later = λ n. clock (suc n);
          gave = (gave.0, gave_rest clock gave.0 f.moment rest ticks);
          gave' = (gave'.0, gave_rest clock gave'.0 f'.moment rest' ticks');
        }

    exchanges_alike : Fits site close t → Fits site close t' → Played d now t.made → Played d' now' t'.made → AlikeExchanges clock now now' t t' rest rest'
    exchanges_alike (at_once f) (at_once f') p p' = direct_alike f f'
    exchanges_alike (by_calls f) (by_calls f') p p' = api_alike f f' p p'
    exchanges_alike (at_once f) (by_calls f') p p' = absurd (let r = routes (direct f.response) (api f'.user) f.routed f'.routed in cc)
    exchanges_alike (by_calls f) (at_once f') p p' = absurd (let r = routes (api f.user) (direct f'.response) f.routed f'.routed in cc)

  same_bytes : (most before : ℕ) (clock : ℕ → ℤ) (now now' : ℕ → List Entry) (xs ys more more' : List Exchange) → SameChanges now now' → messages_of xs ≡ messages_of ys
      → AllFit site most before xs → AllFit site most before ys → Gave clock (all_moments (xs ++ more)) → Gave clock (all_moments (ys ++ more'))
      → Played d now (all_made (xs ++ more)) → Played d' now' (all_made (ys ++ more')) → all_bytes xs ≡ all_bytes ys
  same_bytes most before clock now now' [] [] more more' same said f f' gave gave' p p' = refl
  same_bytes most before clock now now' [] (y ∷ ys) more more' same said f f' gave gave' p p' = absurd (cc)
  same_bytes most before clock now now' (x ∷ xs) [] more more' same said f f' gave gave' p p' = absurd (cc)
  same_bytes most before clock now now' (x ∷ xs) (y ∷ ys) more more' same said f f' gave gave' p p' =
      let first : x.message ≡ y.message = cc in
      let rest : messages_of xs ≡ messages_of ys = cc in
      let fits' : Fits site (closes most before x.message) y = subst (λ (m : Message). Fits site (closes most before m) y) (sym first) f'.0 in
      let one : AlikeExchanges clock now now' x y (all_moments (xs ++ more)) (all_moments (ys ++ more')) =
      exchanges_alike (closes most before x.message) clock now now' same x y (all_moments (xs ++ more)) (all_moments (ys ++ more')) first gave gave' f.0 fits'
      (played_first d now x.made (all_made (xs ++ more)) p) (played_first d' now' y.made (all_made (ys ++ more')) p') in
      let others = same_bytes most (suc before) one.later (after now x.made) (after now' y.made) xs ys more more' one.same_after rest f.1 f'.1 one.gave one.gave'
      (played_rest d now x.made (all_made (xs ++ more)) p) (played_rest d' now' y.made (all_made (ys ++ more')) p') in
      λ i. one.bytes i ++ others i

pub connections_determined : ConnectionsAreDetermined
connections_determined s s' site most clock xs ys desks first second said =
    same_bytes site s s' desks most 0 clock s.seen s'.seen xs ys first.unwritten second.unwritten desks.changes said first.fit second.fit
    (first.moments, first.ticked) (second.moments, second.ticked)
    (played s first.desk (all_made (xs ++ first.unwritten)) first.chain first.sole) (played s' second.desk (all_made (ys ++ second.unwritten)) second.chain second.sole)
