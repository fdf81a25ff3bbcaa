-- Pages from the changes as they can be undone: what each mentions, and how ids stand where a page begins.
use Rattle.std.proofs.Common.{◌≡◌, ◌≤◌, ◌<◌, ◌+◌, ◌==◌, ◌||◌, ℕ, zero, suc, List, [], ◌∷◌, ◌++◌, Bool, true, false, cond, Option, None, Some, unwrap_or, is_some, length, take, drop, get_or, arith, refl, sym, ap, ◌∙◌, append-nil, append_assoc}
use Rattle.std.specs.List.{list_any}
use Rattle.std.proofs.lemmas.Bool.{eqb-true}
use Rattle.std.proofs.lemmas.List.{drop-append-le, length-map, length-take-le, take_all, take_more}
use Rattle.spec_history.specs.Pages.{Mention, is_live, is_touched}
use Rattle.object_log.proofs.MentionLemmas.{is_live_untouched, is_touched_more, is_touched_none, live_from, live_from-cons}
use Rattle.object_log.proofs.StandingLemmas.{standing_begun}
use Rattle.object_log.specs.Pasts.{mention_past, pasts, pasts_after}
use Rattle.object_log.specs.Puts.{latest_from, mention_in, said}
use Rattle.object_log.specs.Standing.{begun, is_named_after, only_if, standing}
use Rattle.object_log.specs.declared.put.Put.{Put}
use Rattle.object_log.specs.declared.standing.Standing.{Standing}
use Rattle.object_log.specs.declared.window.Past.{Past}

first_step : (same seen : Bool) (s b : Standing) (was now : Option Standing) → (same ≡ true → seen ≡ false → b ≡ s)
    → was ≡ only_if seen s → now ≡ cond same (Some (unwrap_or was b)) was → now ≡ only_if (seen || same) s
first_step true true s b was now h is more = more ∙ ap (λ o. Some (unwrap_or o b)) is
first_step true false s b was now h is more = more ∙ ap (λ o. Some (unwrap_or o b)) is ∙ ap Some (h refl refl)
first_step false true s b was now h is more = more ∙ is
first_step false false s b was now h is more = more ∙ is

-- the mentions between two states with one more
pub between_more : (ms : List Mention) (k j : ℕ) (d : Mention) → k ≤ j → j < length ms → drop k (take (j + 1) ms) ≡ drop k (take j ms) ++ get_or ms j d ∷ []
between_more ms k j d le h =
    ap (λ l. drop k l) (take_more ms j d h) ∙ drop-append-le k (take j ms) (get_or ms j d ∷ []) (let size = length-take-le j ms (omega (arith, h)) in omega (arith, le, size))

module _ {T : Type 0} where
  pub length-said : (ps : List (Put T)) → length (said ps) ≡ length ps
  length-said ps = length-map ps mention_in

  -- what a change mentions, once it can be undone
  mention_after : (done ps : List (Put T)) (j : ℕ) (w : Past T) (m : Mention) → j < length ps → mention_past (get_or (pasts_after done ps) j w) ≡ get_or (said ps) j m
  mention_after done [] j w m h = absurd (omega (arith, h))
  mention_after done (p ∷ ps) zero w m h = refl
  mention_after done (p ∷ ps) (suc j) w m h = mention_after (done ++ p ∷ []) ps j w m (omega (arith, h))

  pub mention_at : (ps : List (Put T)) (j : ℕ) (w : Past T) → j < length ps → w ≡ get_or (pasts ps) j w → mention_past w ≡ get_or (said ps) j (mention_past w)
  mention_at ps j w h at = ap mention_past at ∙ mention_after [] ps j w (mention_past w) h

  -- an id has an object where it is live
  live_said : (ps : List (Put T)) (before : Option T) (id : ℕ) → is_some (latest_from before ps id) ≡ live_from (is_some before) (said ps) id
  live_said [] before id = refl
  live_said (p ∷ ps) before id =
      live_said ps (cond (p.id == id) p.object before) id ∙ ap (λ b. live_from b (said ps) id) (some_either (p.id == id)) ∙ sym (live_from-cons (mention_in p) (said ps) (is_some before) id)
    where
      some_either : (b : Bool) → is_some (cond b p.object before) ≡ cond b (is_some p.object) (is_some before)
      some_either true = refl
      some_either false = refl

  -- what a change took the place of tells whether its id was live
  was_after : (done ps : List (Put T)) (j : ℕ) (w : Past T) → j < length ps → is_some (get_or (pasts_after done ps) j w).before ≡ live_from false (said (done ++ take j ps)) (get_or (pasts_after done ps) j w).id
  was_after done [] j w h = absurd (omega (arith, h))
  was_after done (p ∷ ps) zero w h = live_said done None p.id ∙ ap (λ (l : List (Put T)). live_from false (said l) p.id) (sym (append-nil done))
  was_after done (p ∷ ps) (suc j) w h =
      was_after (done ++ p ∷ []) ps j w (omega (arith, h)) ∙ ap (λ (l : List (Put T)). live_from false (said l) (get_or (pasts_after (done ++ p ∷ []) ps) j w).id) (append_assoc done (p ∷ []) (take j ps))

  take_said : (j : ℕ) (ps : List (Put T)) → said (take j ps) ≡ take j (said ps)
  take_said zero ps = refl
  take_said (suc j) [] = refl
  take_said (suc j) (p ∷ ps) = ap (λ l. mention_in p ∷ l) (take_said j ps)

  was_live : (ps : List (Put T)) (j : ℕ) (w : Past T) → j < length ps → w ≡ get_or (pasts ps) j w → is_some w.before ≡ is_live (said ps) j w.id
  was_live ps j w h at =
      ap (λ (v : Past T). is_some v.before) at ∙ was_after [] ps j w h ∙ ap (λ l. live_from false l (get_or (pasts ps) j w).id) (take_said j ps)
      ∙ ap (λ (v : Past T). live_from false (take j (said ps)) v.id) (sym at)

  -- what a map has for an id after one change more behind the state where a page begins
  pub begun_more : (ps : List (Put T)) (k j : ℕ) (w : Past T) (id : ℕ) (was now : Option Standing) → k ≤ j → j < length ps → w ≡ get_or (pasts ps) j w
      → was ≡ only_if (is_touched (said ps) k j id) (standing (said ps) k k id) → now ≡ cond (w.id == id) (Some (unwrap_or was (begun (is_some w.before)))) was
      → now ≡ only_if (is_touched (said ps) k (j + 1) id) (standing (said ps) k k id)
  begun_more ps k j w id was now le h at is more =
      let ms = said ps in
      let inside : j < length ms = omega (arith, h, length-said ps) in
      let here : (get_or ms j (mention_past w)).id ≡ w.id = ap (λ (m : Mention). m.id) (sym (mention_at ps j w h at)) in
      let grown : is_touched ms k (j + 1) id ≡ (is_touched ms k j id || (w.id == id)) = is_touched_more ms k j (mention_past w) id le inside ∙ ap (λ n. is_touched ms k j id || (n == id)) here in
      let live = λ (same : (w.id == id) ≡ true) (e : is_touched ms k j id ≡ false). was_live ps j w h at ∙ ap (λ n. is_live ms j n) (eqb-true w.id id same) ∙ is_live_untouched ms k j id le e in
      first_step (w.id == id) (is_touched ms k j id) (standing ms k k id) (begun (is_some w.before)) was now (λ same e. ap begun (live same e) ∙ sym (standing_begun ms k id)) is more
      ∙ ap (λ b. only_if b (standing ms k k id)) (sym grown)

  -- where a page begins no id was met
  pub begun_none : (ps : List (Put T)) (k id : ℕ) → None ≡ only_if (is_touched (said ps) k k id) (standing (said ps) k k id)
  begun_none ps k id = ap (λ b. only_if b (standing (said ps) k k id)) (sym (is_touched_none (said ps) k id))

  -- at the last state each id that is mentioned behind it was met
  pub begun_all : (ps : List (Put T)) (k j id : ℕ) (o : Option Standing) → length ps ≤ j → o ≡ only_if (is_touched (said ps) k j id) (standing (said ps) k k id)
      → o ≡ only_if (is_named_after (said ps) k id) (standing (said ps) k k id)
  begun_all ps k j id o past is = is ∙ ap (λ l. only_if (list_any (λ (m : Mention). m.id == id) (drop k l)) (standing (said ps) k k id)) (take_all j (said ps) (omega (arith, past, length-said ps)))
