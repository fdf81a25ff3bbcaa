-- What a connection comes to in histories, at each of its ends.
use Rattle.std.proofs.Common.{◌≡◌, ℕ, ℤ, suc, ◌+◌, ◌*◌, ◌≤◌, List, [], ◌∷◌, ◌++◌, Bool, true, false, inl, inr, length, length-append, map, ap, ◌∙◌, sym, refl, subst, append-nil, arith, if◌then◌else◌, true≢false}
use Rattle.std.proofs.lemmas.Grind.{flat_map-append}
use Rattle.std.specs.Prelude.{nat_lt}
use Rattle.spec_batch.proofs.CallCounts.{few_asked, few_calls, few_stopped}
use Rattle.spec_batch.proofs.Chains.{nothing_done, stop_adds_nothing, summaries_join, summary, turns_counted}
use Rattle.spec_batch.specs.Asked.{Asked, asked, is_refused, refused}
use Rattle.spec_batch.specs.Batch.{NextMeans, Step, made_in}
use Rattle.spec_batch.specs.Chain.{Made, Shown, Stops, Summary, front_of}
use Rattle.spec_batch.specs.Reply.{Replies, asked_by_reading, asked_in}
use Rattle.spec_batch.specs.declared.desk.DeskError.{DeskError}
use Rattle.spec_batch.specs.declared.request.Request.{Request}
use Rattle.spec_connection.specs.Exchanges.{AllFit, Begun, Exchange, Fits, all_made, at_once, by_calls, called, uncalled}
use Rattle.spec_connection.specs.Serving.{CutShort, Rests, Serves, Setting, refusal_cut, response_cut}
use Rattle.spec_connection.specs.declared.served.ConnEnd.{ConnEnd}
use Rattle.spec_connection.specs.declared.served.ConnEnd.TheVariants as end
use Rattle.spec_connection.specs.declared.served.Served.{Served}
use Rattle.spec_core.specs.declared.limits.TheConstants.{MAX_CALLS_IN_REQUEST, MAX_SIZE_REQUEST}
use Rattle.spec_core.specs.declared.user.User.{User}
use Rattle.spec_json.specs.Data.{Data}
use Rattle.spec_json.specs.Json.{Reading, not_json, not_whole, reading, value}
use Rattle.spec_site.specs.Configuration.{Site, user_at}
use Rattle.spec_time.specs.Moments.{clamped}
use Rattle.conn_serve.proofs.Completeness.{How}
use Rattle.conn_serve.specs.Histories.{ConnectionsStandInHistories}

-- ---- a message has few calls

few_by_reading : (x : Reading) (r : Request) → asked_by_reading x ≡ asked r → length r.calls ≤ MAX_CALLS_IN_REQUEST
few_by_reading not_json r is = absurd (true≢false (ap is_refused is))
few_by_reading not_whole r is = absurd (true≢false (ap is_refused is))
few_by_reading (value d) r is = few_asked d r is

few_if : (b : Bool) (bytes : List ℕ) (a : Asked) (r : Request) → (e : Asked) → is_refused e ≡ true → a ≡ (if b then e else asked_by_reading (reading bytes)) → a ≡ asked r → length r.calls ≤ MAX_CALLS_IN_REQUEST
few_if true bytes a r e refuses is asks = absurd (true≢false (sym refuses ∙ ap is_refused (sym is ∙ asks)))
few_if false bytes a r e refuses is asks = few_by_reading (reading bytes) r (sym is ∙ asks)

few_in : (bytes : List ℕ) (r : Request) → asked_in bytes ≡ asked r → length r.calls ≤ MAX_CALLS_IN_REQUEST
few_in bytes r is = few_if (nat_lt MAX_SIZE_REQUEST (length bytes)) bytes (asked_in bytes) r _ refl refl is

replies_few : (user : User) (moment : ℤ) (bytes : List ℕ) (what : Asked) (made : List Made) (reply : Data) → asked_in bytes ≡ what → Replies user moment what made reply → length made ≤ MAX_CALLS_IN_REQUEST
replies_few user moment bytes (asked r) made reply is h =
    let few = few_in bytes r is in
    let calls = few_calls r h.0 [] (h.1 ∙ sym (append-nil (map (λ (s : Step). s.invocation) h.0))) in
    let count = ap length h.3 in
    omega arith
replies_few user moment bytes (refused e) made reply is h = (let count = ap length h.0 in omega arith)

fits_few : {site : Site} {close : Bool} {t : Exchange} → Fits site close t → length t.made ≤ MAX_CALLS_IN_REQUEST
fits_few (at_once f) = (let count = ap length f.uncalled in omega arith)
fits_few {site} {close} {t} (by_calls f) = replies_few (user_at site f.user) (clamped f.moment) t.message.body (asked_in t.message.body) t.made f.reply refl f.replied

all_fit_few : (site : Site) (most before : ℕ) (ts : List Exchange) → AllFit site most before ts → length (all_made ts) ≤ MAX_CALLS_IN_REQUEST * length ts
all_fit_few site most before [] fit = omega arith
all_fit_few site most before (t ∷ ts) fit =
    (let one = fits_few fit.0 in let rest = all_fit_few site most (suc before) ts fit.1 in let both = length-append t.made (all_made ts) in omega arith)

-- ---- what stands behind the messages that were answered

-- the desk added nothing more, and with its last call it made no more than these messages may have
record Leaves (u v : Shown) (unwritten : List Exchange) : Type 0 where
  pub adds : Summary u v []
  pub turns : v.turns + length (all_made unwritten) ≤ u.turns + MAX_CALLS_IN_REQUEST * length unwritten

leaves_none : {u v : Shown} {unwritten : List Exchange} → v ≡ u → unwritten ≡ [] → Leaves u v unwritten
leaves_none {u} {v} {unwritten} same none = record {
  adds = subst (λ (x : Shown). Summary u x []) (sym same) (nothing_done u);
  turns = (let turns = ap (λ (x : Shown). x.turns) same in let made = ap (λ (ts : List Exchange). length (all_made ts)) none in omega arith);
}

leaves_one : {u v : Shown} {unwritten : List Exchange} (t : Exchange) → v ≡ u → unwritten ≡ t ∷ [] → length t.made ≤ MAX_CALLS_IN_REQUEST → Leaves u v unwritten
leaves_one {u} {v} {unwritten} t same one few = record {
  adds = subst (λ (x : Shown). Summary u x []) (sym same) (nothing_done u);
  turns = (
      let turns = ap (λ (x : Shown). x.turns) same in
      let made = ap (λ (ts : List Exchange). length (all_made ts)) one ∙ ap length (append-nil t.made) in
      let count = ap length one in
      omega arith
      );
}

module _ {site : Site} where
  leaves_begun : {close : Bool} {t : Exchange} {e : DeskError} {u v : Shown} {unwritten : List Exchange} → unwritten ≡ t ∷ [] → Begun site close t e u v → Leaves u v unwritten
  leaves_begun {close} {t} one (uncalled is moments none same) = leaves_one t same one (let count = ap length none in omega arith)
  leaves_begun {close} {t} {e} {u} {v} {unwritten} one (called b) =
      let r = b.begins in
      let these = NextMeans (user_at site b.user) r.request (clamped b.moment) r.steps r.rest in
      record {
        adds = stop_adds_nothing these (clamped b.moment) e u v r.stops;
        turns = (
            let few = few_in t.message.body r.request r.is_request in
            let more = few_stopped (user_at site b.user) r.request (clamped b.moment) r.steps u v r.rest e r.invoked r.stops in
            let calls = ap length r.made_is in
            let made = ap (λ (ts : List Exchange). length (all_made ts)) one ∙ ap length (append-nil t.made) in
            let count = ap length one in
            omega arith
            );
      }

  module _ {most : ℕ} {x x' : Setting} {served : Served} (s : Serves site most x x' served) where
    leaves_cut : CutShort site most s.exchanges s.unwritten s.tail s.behind → x'.desk ≡ s.desk → Leaves s.desk x'.desk s.unwritten
    leaves_cut (response_cut t one fits prefix) same = leaves_one t same one (fits_few fits)
    leaves_cut (refusal_cut status text w prefix) same = leaves_none same w.all_written

    leaves_at : (e : ConnEnd) → Rests e s.desk x'.desk → How s e → Leaves s.desk x'.desk s.unwritten
    leaves_at end.Closed r how = leaves_none r how.0.all_written
    leaves_at end.CloseAsked r how = leaves_none r how.all_written
    leaves_at (end.BadHead status) r how = leaves_none r how.all_written
    leaves_at end.Truncated r how = leaves_none r how.0.all_written
    leaves_at end.Quota r how = leaves_none r how.all_written
    leaves_at end.ReadFault r how = leaves_none r how.0.all_written
    leaves_at end.WriteFault r how = leaves_cut how.0 r
    leaves_at end.PassSpent r how = leaves_begun how.0.is_unwritten how.0.begun
    leaves_at end.NoMemory r (inl unanswered, open_) = leaves_begun unanswered.is_unwritten unanswered.begun
    leaves_at end.NoMemory r (inr idle, open_) = leaves_none idle.2 idle.0

pub connections_stand : ConnectionsStandInHistories
connections_stand site most x x' served s =
    let made = all_made (s.exchanges ++ s.unwritten) in
    let left = leaves_at s served.end s.rests s.how in
    let all = summaries_join x.desk s.desk x'.desk made [] (summary x.desk s.desk made s.told.chain) left.adds in (
      made,
      subst (Summary x.desk x'.desk) (append-nil made) all,
      sym s.told.added,
      (
          let turns = turns_counted x.desk s.desk made s.told.chain in
          let parts = ap length (flat_map-append (λ (t : Exchange). t.made) s.exchanges s.unwritten) ∙ length-append (all_made s.exchanges) (all_made s.unwritten) in
          let few = all_fit_few site most 0 s.exchanges s.fit in
          let last = left.turns in
          let count = s.count in
          let room = s.room in
          omega arith
          ),
    )
