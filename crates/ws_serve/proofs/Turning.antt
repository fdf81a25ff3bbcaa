-- One turn: a text, or a look.
use Rattle.std.proofs.Common.{◌≡◌, ℕ, ℤ, ◌+◌, ◌≤◌, List, [], ◌∷◌, ◌++◌, Option, Some, None, Result, Ok, Err, Vec, refl, sym, ap, ◌∙◌, subst, length, length-append, map, append-nil, arith}
use Rattle.std.specs.declared.alloc.Global.{Global}
use Rattle.std.proofs.lemmas.List.{length-map}
use Rattle.std.specs.Prelude.{}
use Rattle.std.specs.Option.{option_map_or}
use Rattle.io_edge.specs.Outside.{Ticks}
use Rattle.spec_batch.proofs.Chains.{still}
use Rattle.spec_batch.specs.Chain.{Chain, Made, Shown, front_of}
use Rattle.spec_batch.specs.declared.desk.DeskError.{DeskError}
use Rattle.spec_batch.specs.declared.desk.DeskError.TheVariants.{NoMemory}
use Rattle.spec_batch.specs.declared.desk.Front.{Front}
use Rattle.spec_core.specs.declared.user.User.{User}
use Rattle.spec_push.specs.Looks.{IsLook, Look, Sight, made_for, watched_of}
use Rattle.spec_push.specs.declared.watched.Watched.{Watched}
use Rattle.spec_sockets.specs.Exchanges.{TextExchange}
use Rattle.spec_sockets.specs.Switches.{switch_in_text}
use Rattle.spec_sockets.specs.Texts.{asked_in_text, id_in_text}
use Rattle.spec_sockets.specs.Turns.{Turn, looked, replied, switched, watched_by}
use Rattle.spec_sockets.specs.declared.switch.Switch.{Switch}
use Rattle.spec_time.specs.Moments.{clamped}
use Rattle.state_watch.proofs.Seeing.{made_for_few}
use Rattle.state_watch.specs.Looking.{LooksSo, texts_in}
use Rattle.state_watch.specs.declared.watch.Looked.{Looked}
use Rattle.ws_serve.proofs.Replying.{no_answer}
use Rattle.ws_serve.proofs.TurnLemmas.{told_one}
use Rattle.ws_serve.specs.Answering.{IsTextAnswered}
use Rattle.ws_serve.specs.Turning.{TakesTurn, IsLookHad, IsTextHad, as_messages, replies_said, texts_said}
use Rattle.ws_serve.specs.Valued.{IsAnsweredAs}
use Rattle.ws_serve.specs.declared.push.Push.{Push}
use Rattle.ws_serve.specs.declared.turn.Said.{Said}
use Rattle.ws_serve.specs.declared.turn.Said.TheVariants.{Change, Nothing, Reply}

module _ (user : User) (asking : List ℕ) (p p' : Push) (c0 c1 : Option (ℕ → ℤ)) (f0 f1 : List Front) (d0 d1 : Shown) where
  -- a text was taken, at the moment that the clock told
  text_at_moment : (told : ℤ) (r : Result Said DeskError) → Ticks c0 c1 told → IsTextHad (clamped told) p p' user asking f0 f1 d0 d1 r → TakesTurn user (Some asking) p p' c0 c1 f0 f1 d0 d1 r
  text_at_moment told (Ok (Reply bytes)) ticks h =
      let a : IsAnsweredAs user (clamped told) (asked_in_text asking) (id_in_text asking) f0 f1 d0 d1 (Ok bytes) = h.1 in
      let t : TextExchange = record { asking = asking; moment = told; made = a.made; reply = bytes.items } in
      record {
        turn = replied t;
        takes = refl;
        size = omega arith;
        desk = a.desk;
        told = told_one (replied t) ticks a.added (subst (Chain d0 a.desk) (sym (append-nil a.made)) a.chain);
        how = (record { fit = (h.0, a.how.0); says = refl; replies = refl; watch = h.2; calls = (let same = h.3 in omega (arith, same)) }, a.how.1);
      }
  text_at_moment told (Ok Nothing) ticks h =
      let fronts : f1 ≡ f0 = h.2 in
      let same : d1 ≡ d0 = h.3 in
      record {
        turn = switched asking told;
        takes = refl;
        size = omega arith;
        desk = d0;
        told = told_one (switched asking told) ticks (fronts ∙ sym (append-nil f0)) (still d0);
        how = (
          record {
            fit = (h.0, h.1);
            says = refl;
            replies = refl;
            watch = h.4 ∙ sym (ap (λ (o : Option Switch). option_map_or (watched_by user) o p.watch) h.1);
            calls = (let calls = h.5 in omega (arith, calls));
          },
          same,
        );
      }
  text_at_moment told (Ok (Change bytes)) ticks h = absurd h
  text_at_moment told (Err e) ticks a =
      let t : TextExchange = record { asking = asking; moment = told; made = a.made; reply = [] } in
      record {
        turn = replied t;
        takes = refl;
        size = omega arith;
        desk = a.desk;
        told = told_one (replied t) ticks a.added (subst (Chain d0 a.desk) (sym (append-nil a.made)) a.chain);
        how = a.how;
      }

  pub text_had : (told w : ℤ) (r : Result Said DeskError) → Ticks c0 c1 told → w ≡ clamped told → IsTextHad w p p' user asking f0 f1 d0 d1 r → TakesTurn user (Some asking) p p' c0 c1 f0 f1 d0 d1 r
  text_had told w r ticks clamps h = text_at_moment told r ticks (subst (λ (y : ℤ). IsTextHad y p p' user asking f0 f1 d0 d1 r) clamps h)

look_within : (watch : List Watched) (moment : ℤ) (l : Look) → IsLook watch moment l → length l.sights + length l.rest ≤ length watch
look_within watch moment l h = (let all = ap length h.over ∙ length-append (watched_of l.sights) l.rest in let as_many = length-map l.sights (λ (s : Sight). s.watched) in omega (arith, all, as_many))

module _ (user : User) (p p' : Push) (c0 c1 : Option (ℕ → ℤ)) (f : List Front) (d0 d1 : Shown) where
  look_at_moment : (told : ℤ) (r : Result Said DeskError) → Ticks c0 c1 told → IsLookHad (clamped told) p p' d0 d1 r → TakesTurn user None p p' c0 c1 f f d0 d1 r
  look_at_moment told (Ok said) ticks h = record {
    turn = looked h.look told;
    takes = refl;
    size = look_within p.watch (clamped told) h.look h.how.0.0;
    desk = h.desk;
    told = told_one (looked h.look told) ticks (sym (append-nil f)) h.chain;
    how = (record { fit = h.how.0; says = h.how.3; replies = h.how.4; watch = h.how.2; calls = h.how.5 }, h.how.1);
  }
  look_at_moment told (Err e) ticks h = record {
    turn = looked h.look told;
    takes = refl;
    size = look_within p.watch (clamped told) h.look h.how.0;
    desk = h.desk;
    told = told_one (looked h.look told) ticks (sym (append-nil f)) h.chain;
    how = h.how;
  }

  pub look_had : (told w : ℤ) (r : Result Said DeskError) → Ticks c0 c1 told → w ≡ clamped told → IsLookHad w p p' d0 d1 r → TakesTurn user None p p' c0 c1 f f d0 d1 r
  look_had told w r ticks clamps h = look_at_moment told r ticks (subst (λ (y : ℤ). IsLookHad y p p' d0 d1 r) clamps h)

-- what is watched couldn't be noted, and nothing was asked
pub unswitched : {user : User} {moment : ℤ} (asking : List ℕ) {f f' : List Front} {d d' : Shown} → f' ≡ f → d' ≡ d → IsAnsweredAs user moment (asked_in_text asking) (id_in_text asking) f f' d d' (Err NoMemory)
unswitched {user} {moment} asking {f} {f'} {d} {d'} fronts same =
    subst (λ (y : List Front × Shown). IsAnsweredAs user moment (asked_in_text asking) (id_in_text asking) f y.0 d y.1 (Err NoMemory)) (λ i. (sym fronts i, sym same i)) no_answer

-- ---- a look

-- it makes no more calls than there are states
pub look_calls : {moment : ℤ} {watch watch' : List Watched} {d d' : Shown} (came : Looked) → LooksSo moment watch watch' d d' (Ok came) → came.calls ≤ length watch
look_calls {moment} {watch} came s = (
    let within = look_within watch moment s.look s.how.0.whole.0 in
    let made = made_for_few s.look.sights in
    let calls = s.how.2 in
    omega (arith, within, made, calls)
    )

pub look_told : (moment : ℤ) (p p' : Push) (d d' : Shown) (came : Looked) (said : Said) → LooksSo moment p.watch p'.watch d d' (Ok came) → p'.calls ≡ p.calls + came.calls
    → texts_said said ≡ texts_in came.told → replies_said said ≡ [] → IsLookHad moment p p' d d' (Ok said)
look_told moment p p' d d' came said s calls says none = record {
  look = s.look;
  desk = s.desk;
  chain = s.chain;
  how = (s.how.0.whole, s.how.0.same, s.how.0.noted, says ∙ s.how.1, none, calls ∙ ap (λ (k : ℕ). p.calls + k) s.how.2);
}
