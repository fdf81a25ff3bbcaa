-- What a socket comes to in histories, at each of its ends.
use Rattle.std.proofs.Common.{◌≡◌, ℕ, ℤ, ◌+◌, ◌*◌, ◌≤◌, List, [], ◌∷◌, ◌++◌, Bool, true, false, Err, inl, inr, length, length-append, map, ap, ◌∙◌, sym, refl, subst, append-nil, arith, if◌then◌else◌, true≢false}
use Rattle.std.proofs.lemmas.Grind.{flat_map-append}
use Rattle.std.specs.Prelude.{nat_lt, sum_by}
use Rattle.spec_batch.proofs.CallCounts.{few_asked, few_calls, few_stopped}
use Rattle.spec_batch.proofs.Chains.{nothing_done, stop_adds_nothing, summaries_join, summary, turns_counted}
use Rattle.spec_batch.specs.Asked.{Asked, asked, asked_by, is_refused, refused}
use Rattle.spec_batch.specs.Batch.{NextMeans, Step}
use Rattle.spec_batch.specs.Chain.{Called, Made, Shown, Summary}
use Rattle.spec_batch.specs.Reply.{Replies}
use Rattle.spec_batch.specs.declared.desk.DeskError.{DeskError}
use Rattle.spec_batch.specs.declared.desk.DeskError.TheVariants as reason
use Rattle.spec_calls.specs.declared.call.Call.{Call}
use Rattle.spec_batch.specs.declared.request.Request.{Request}
use Rattle.spec_batch.specs.declared.request.RequestError.TheVariants.{NotRequest}
use Rattle.spec_core.specs.declared.limits.TheConstants.{MAX_CALLS_IN_REQUEST, MAX_SIZE_REQUEST}
use Rattle.spec_core.specs.declared.user.User.{User}
use Rattle.spec_json.specs.Data.{Data}
use Rattle.spec_json.specs.Json.{Reading, not_json, not_whole, reading, value}
use Rattle.spec_push.specs.Looks.{AsksForNext, Look, LooksInPart}
use Rattle.spec_push.specs.declared.watched.Watched.{Watched}
use Rattle.spec_sockets.specs.Exchanges.{TextBegun, TextExchange, TextFits}
use Rattle.spec_sockets.specs.Serving.{SocketRests, ServesSocket, SocketSetting}
use Rattle.spec_sockets.specs.Turns.{AllTurnsFit, Turn, TurnBegun, TurnFits, look_size, looked, made_by, made_for_text, made_for_texts, made_in_turns, made_in_look, made_in_looks, replied, replies_in, reply_of, switched, watched_after, watched_behind_all}
use Rattle.spec_sockets.specs.Texts.{marked_by_reading, asked_in_text, is_marked}
use Rattle.spec_sockets.specs.declared.served.WsEnd.{WsEnd}
use Rattle.spec_sockets.specs.declared.served.WsEnd.TheVariants as end
use Rattle.spec_sockets.specs.declared.served.WsServed.{WsServed}
use Rattle.spec_time.specs.Moments.{clamped}
use Rattle.ws_serve.proofs.Completeness.{How}
use Rattle.state_watch.proofs.Seeing.{made_for_few}
use Rattle.ws_serve.proofs.TurnLemmas.{looks_few}
use Rattle.ws_serve.specs.Histories.{SocketsStandInHistories}

-- ---- a text has few calls

few_if_marked : (b : Bool) (d : Data) (r : Request) → (if b then asked_by d else refused NotRequest) ≡ asked r → length r.calls ≤ MAX_CALLS_IN_REQUEST
few_if_marked true d r is = few_asked d r is
few_if_marked false d r is = absurd (true≢false (ap is_refused is))

few_by_reading : (x : Reading) (r : Request) → marked_by_reading x ≡ asked r → length r.calls ≤ MAX_CALLS_IN_REQUEST
few_by_reading not_json r is = absurd (true≢false (ap is_refused is))
few_by_reading not_whole r is = absurd (true≢false (ap is_refused is))
few_by_reading (value d) r is = few_if_marked (is_marked d) d r is

few_if : (b : Bool) (bytes : List ℕ) (e : Asked) (r : Request) → is_refused e ≡ true → (if b then e else marked_by_reading (reading bytes)) ≡ asked r → length r.calls ≤ MAX_CALLS_IN_REQUEST
few_if true bytes e r refuses is = absurd (true≢false (sym refuses ∙ ap is_refused is))
few_if false bytes e r refuses is = few_by_reading (reading bytes) r is

few_in : (bytes : List ℕ) (r : Request) → asked_in_text bytes ≡ asked r → length r.calls ≤ MAX_CALLS_IN_REQUEST
few_in bytes r is = few_if (nat_lt MAX_SIZE_REQUEST (length bytes)) bytes _ r refl is

replies_few : (user : User) (moment : ℤ) (bytes : List ℕ) (what : Asked) (made : List Made) (reply : Data) → asked_in_text bytes ≡ what → Replies user moment what made reply → length made ≤ MAX_CALLS_IN_REQUEST
replies_few user moment bytes (asked r) made reply is h =
    let few = few_in bytes r is in
    let calls = few_calls r h.0 [] (h.1 ∙ sym (append-nil (map (λ (s : Step). s.invocation) h.0))) in
    let count = ap length h.3 in
    omega arith
replies_few user moment bytes (refused e) made reply is h = (let count = ap length h.0 in omega arith)

text_few : (user : User) (t : TextExchange) → TextFits user t → length t.made ≤ MAX_CALLS_IN_REQUEST
text_few user t f = replies_few user (clamped t.moment) t.asking (asked_in_text t.asking) t.made f.0 refl f.1

-- ---- a turn has few calls: for each text that is replied to, and for a look as many as there are states

turn_few : (user : User) (watch : List Watched) (t : Turn) → TurnFits user watch t → length (made_for_text t) ≤ MAX_CALLS_IN_REQUEST * length (reply_of t)
turn_few user watch (replied t) fit = (let few = text_few user t fit.1 in omega (arith, few))
turn_few user watch (switched asking moment) fit = omega arith
turn_few user watch (looked l moment) fit = omega arith

turns_few : (user : User) (watch : List Watched) (ts : List Turn) → AllTurnsFit user watch ts → length (made_for_texts ts) ≤ MAX_CALLS_IN_REQUEST * length (replies_in ts)
turns_few user watch [] fit = omega arith
turns_few user watch (t ∷ ts) fit = (
    let one = turn_few user watch t fit.0 in
    let rest = turns_few user (watched_after user watch t) ts fit.1 in
    let made = length-append (made_for_text t) (made_for_texts ts) in
    let replies = length-append (reply_of t) (replies_in ts) in
    omega (arith, one, rest, made, replies)
    )

both_parts : (ts : List Turn) → length (made_in_turns ts) ≡ length (made_for_texts ts) + length (made_in_looks ts)
both_parts [] = refl
both_parts (t ∷ ts) = (
    let all = length-append (made_by t) (made_in_turns ts) in
    let one = length-append (made_for_text t) (made_in_look t) in
    let texts = length-append (made_for_text t) (made_for_texts ts) in
    let looks = length-append (made_in_look t) (made_in_looks ts) in
    let rest = both_parts ts in
    omega (arith, all, one, texts, looks, rest)
    )

-- ---- what stands behind the turns that were had

-- the desk added nothing more, and with its last call it made no more than these turns may have
record Leaves (u v : Shown) (unfinished : List Turn) : Type 0 where
  pub adds : Summary u v []
  pub turns : v.turns + length (made_in_turns unfinished) ≤ u.turns + (MAX_CALLS_IN_REQUEST * length (replies_in unfinished) + sum_by look_size unfinished)

leaves_none : {u v : Shown} {unfinished : List Turn} → v ≡ u → unfinished ≡ [] → Leaves u v unfinished
leaves_none {u} {v} {unfinished} same none = record {
  adds = subst (λ (x : Shown). Summary u x []) (sym same) (nothing_done u);
  turns = (let turns = ap (λ (x : Shown). x.turns) same in let made = ap (λ (ts : List Turn). length (made_in_turns ts)) none in omega (arith, turns, made));
}

-- what is left of one turn
leaves_turn : {u v : Shown} {unfinished : List Turn} (t : Turn) → unfinished ≡ t ∷ [] → Summary u v [] → v.turns + (length (made_for_text t) + length (made_in_look t)) ≤ u.turns + (MAX_CALLS_IN_REQUEST * length (reply_of t) + look_size t) → Leaves u v unfinished
leaves_turn {u} {v} {unfinished} t one adds few = record {
  adds = adds;
  turns = (
      let made = ap (λ (ts : List Turn). length (made_in_turns ts)) one ∙ (ap length (append-nil (made_by t)) ∙ length-append (made_for_text t) (made_in_look t)) in
      let replies = ap (λ (ts : List Turn). length (replies_in ts)) one ∙ ap length (append-nil (reply_of t)) in
      let size = ap (sum_by look_size) one in
      omega (arith, made, replies, size, few)
      );
}

leaves_idle : {u v : Shown} {unfinished : List Turn} (t : Turn) → v ≡ u → unfinished ≡ t ∷ [] → length (made_for_text t) ≤ MAX_CALLS_IN_REQUEST * length (reply_of t) → Leaves u v unfinished
leaves_idle {u} {v} {unfinished} t same one few =
    leaves_turn t one (subst (λ (x : Shown). Summary u x []) (sym same) (nothing_done u)) (let turns = ap (λ (x : Shown). x.turns) same in let looks = looks_few t in omega (arith, turns, looks, few))

called_once : (e : DeskError) (u v : Shown) (account : ℕ) (call : Call) (moment : ℤ) → Called u v account call moment (Err e) → v.turns ≤ u.turns + 1
called_once reason.PassSpent u v account call moment h = (let turns = ap (λ (x : Shown). x.turns) h.1 in omega (arith, turns))
called_once reason.NoMemory u v account call moment h = (let turns = h.1.beside.turns in omega (arith, turns))

some_left : (rest : List Watched) (account : ℕ) (call : Call) → AsksForNext rest account call → 1 ≤ length rest
some_left [] account call h = absurd h
some_left (w ∷ ws) account call h = omega arith

module _ (user : User) where
  leaves_text : {e : DeskError} {u v : Shown} {unfinished : List Turn} (t : TextExchange) → unfinished ≡ replied t ∷ [] → TextBegun user e u v t → Leaves u v unfinished
  leaves_text t one (inl h) = leaves_idle (replied t) h.2 one (let count = ap length h.1 in omega (arith, count))
  leaves_text {e} {u} {v} {unfinished} t one (inr r) =
      let these = NextMeans user r.request (clamped t.moment) r.steps r.rest in
      leaves_turn (replied t) one (stop_adds_nothing these (clamped t.moment) e u v r.stops) (
      let few = few_in t.asking r.request r.is_request in
      let more = few_stopped user r.request (clamped t.moment) r.steps u v r.rest e r.invoked r.stops in
      let calls = ap length r.made_is in
      omega (arith, few, more, calls)
      )

  leaves_look : (e : DeskError) {u v : Shown} {unfinished : List Turn} (watch : List Watched) (l : Look) (moment : ℤ) → unfinished ≡ looked l moment ∷ [] → LooksInPart watch (clamped moment) l e u v → Leaves u v unfinished
  leaves_look e {u} {v} watch l moment one (h, inl idle) = leaves_idle (looked l moment) idle.1 one (omega arith)
  leaves_look e {u} {v} watch l moment one (h, inr next) =
      leaves_turn (looked l moment) one (stop_adds_nothing (AsksForNext l.rest) (clamped moment) e u v (inr next)) (
      let once = called_once e u v next.0 next.1 (clamped moment) next.3 in
      let left = some_left l.rest next.0 next.1 next.2 in
      let made = made_for_few l.sights in
      omega (arith, once, left, made)
      )

  leaves_begun : (e : DeskError) {u v : Shown} {unfinished : List Turn} (watch : List Watched) (t : Turn) → unfinished ≡ t ∷ [] → TurnBegun user watch e u v t → Leaves u v unfinished
  leaves_begun e watch (replied t) one begun = leaves_text t one begun
  leaves_begun e watch (switched asking moment) one begun = absurd begun
  leaves_begun e watch (looked l moment) one begun = leaves_look e watch l moment one begun

  module _ {most : ℕ} {x x' : SocketSetting} {served : WsServed} (s : ServesSocket user most x x' served) where
    leaves_at : (e : WsEnd) → SocketRests e s.desk x'.desk → How s e → Leaves s.desk x'.desk s.unfinished
    leaves_at end.Closed r how = leaves_none r how.0.0
    leaves_at end.Binary r how = leaves_none r how.0
    leaves_at end.Quota r how = leaves_none r how.0.0
    leaves_at end.LinkFault r (inl none, cut, rose) = leaves_none r none
    leaves_at end.LinkFault r (inr unsent, cut, rose) = leaves_idle unsent.0 r unsent.1 (turn_few user (watched_behind_all user s.turns) unsent.0 unsent.2)
    leaves_at end.PassSpent r how = leaves_begun reason.PassSpent (watched_behind_all user s.turns) how.0.0 how.0.1 how.0.2
    leaves_at end.NoMemory r (inl idle, rest) = leaves_none idle.1 idle.0
    leaves_at end.NoMemory r (inr begun, rest) = leaves_begun reason.NoMemory (watched_behind_all user s.turns) begun.0 begun.1 begun.2

pub sockets_stand : SocketsStandInHistories
sockets_stand user most x x' served s =
    let made = made_in_turns (s.turns ++ s.unfinished) in
    let left = leaves_at user s served.end s.rests s.how in
    let all = summaries_join x.desk s.desk x'.desk made [] (summary x.desk s.desk made s.told.chain) left.adds in (
      subst (Summary x.desk x'.desk) (append-nil made) all,
      sym s.told.added,
      (
          let turns = turns_counted x.desk s.desk made s.told.chain in
          let parts = ap length (flat_map-append made_by s.turns s.unfinished) ∙ length-append (made_in_turns s.turns) (made_in_turns s.unfinished) in
          let kinds = both_parts s.turns in
          let few = turns_few user [] s.turns s.fit in
          let last = left.turns in
          let count = s.count in
          let room = s.room in
          let looks = s.looks in
          omega (arith, turns, parts, kinds, few, last, count, room, looks)
          ),
    )
