-- One message and its response.
use Rattle.std.proofs.Common.{◌≡◌, ℕ, ℤ, ◌+◌, ◌≤◌, List, [], ◌∷◌, ◌++◌, Bool, Option, Result, Ok, Err, inl, inr, Vec, length, map, refl, sym, ap, ◌∙◌, subst, arith, append-nil}
use Rattle.std.specs.Prelude.{◌⊎◌}
use Rattle.std.specs.declared.alloc.Global.{Global}
use Rattle.spec_batch.specs.Asked.{Asked, asked, is_refused, refused}
use Rattle.spec_time.specs.Moments.{clamped}
use Rattle.spec_batch.specs.Reply.{BeginsReply, Replies, asked_in}
use Rattle.spec_batch.specs.Chain.{Made, Chain, Shown, front_of}
use Rattle.spec_json.specs.Data.{Data}
use Rattle.spec_http.specs.Messages.{Message}
use Rattle.spec_http.specs.Responses.{Response, response_text}
use Rattle.spec_connection.proofs.InOrder.{answered_at, unasked}
use Rattle.spec_connection.specs.Answered.{AnsweredInOrder}
use Rattle.spec_connection.specs.Routes.{Route, api, direct, route}
use Rattle.spec_connection.specs.Exchanges.{Told, Exchange, api_response, at_once, by_calls, called, moments_for, uncalled}
use Rattle.io_edge.specs.Outside.{Ticks}
use Rattle.spec_site.specs.Configuration.{Site, user_at}
use Rattle.spec_json.specs.TreeData.{data_of}
use Rattle.spec_batch.specs.declared.desk.DeskError.{DeskError}
use Rattle.spec_batch.specs.declared.desk.DeskError.TheVariants.{NoMemory}
use Rattle.spec_batch.specs.declared.desk.Front.{Front}
use Rattle.spec_core.specs.declared.user.User.{User}
use Rattle.conn_serve.specs.Answering.{AnswerHow, AnswersMessage, outcome_response}
use Rattle.request_reply.specs.Outcomes.{IsOutcome, OutcomeHow}
use Rattle.request_reply.specs.declared.reply.RequestOutcome.{RequestOutcome}

-- ---- no call was made

abbrev quiet : Message → List ℕ → Exchange
quiet message bytes = record { message = message; moments = []; made = []; bytes = bytes }

told_quiet : {c : Option (ℕ → ℤ)} {f : List Front} {d : Shown} (message : Message) (bytes : List ℕ) → Told c c f f d d (quiet message bytes ∷ [])
told_quiet {c} {f} {d} message bytes = unasked c f d 1

module _ {site : Site} {close : Bool} {message : Message} {c : Option (ℕ → ℤ)} {f : List Front} {d : Shown} where
  pub answered_at_once : {r : Route} {response : Response} (v : Vec ℕ Global) → r ≡ route site close message → r ≡ direct response → v.items ≡ response_text response → AnswersMessage site close message c c f f d d (Ok v)
  answered_at_once {r} {response} v routes is shows = record {
    exchange = quiet message v.items;
    is = refl;
    desk = d;
    told = told_quiet message v.items;
    how = (at_once (record { response = response; routed = sym routes ∙ is; unread = refl; uncalled = refl; shows = shows }), refl, refl);
  }

  pub not_answered : AnswersMessage site close message c c f f d d (Err NoMemory)
  not_answered = record { exchange = quiet message []; is = refl; desk = d; told = told_quiet message []; how = uncalled refl (omega arith) refl refl }

-- ---- calls were made

abbrev exchange_at : Message → ℤ → List Made → List ℕ → Exchange
exchange_at message told made bytes = record { message = message; moments = told ∷ []; made = made; bytes = bytes }

told_one : {c0 c1 : Option (ℕ → ℤ)} {f0 f1 : List Front} {d0 d1 : Shown} (message : Message) (told : ℤ) (made : List Made) (bytes : List ℕ)
    → Ticks c0 c1 told → f1 ≡ f0 ++ map front_of made → Chain d0 d1 made → length made ≤ 16 → Told c0 c1 f0 f1 d0 d1 (exchange_at message told made bytes ∷ [])
told_one {c0} {c1} {f0} {f1} {d0} {d1} message told made bytes ticks fronts chain few =
    subst (λ (l : List Made). AnsweredInOrder c0 c1 f0 f1 d0 d1 (told ∷ []) l 1) (sym (append-nil made)) (answered_at c0 c1 f0 f1 d0 d1 told made ticks fronts chain few)

begins_whole : (user : User) (moment : ℤ) (what : Asked) (made : List Made) (d : Data) (u v : Shown) → Replies user moment what made d → v ≡ u → (made ≡ []) ⊎ BeginsReply user moment what made NoMemory u v
begins_whole user moment (asked r) made d u v h same =
    inr (record { request = r; is_request = refl; steps = h.0; rest = []; invoked = h.1 ∙ sym (append-nil _); fit = h.2; made_is = h.3; stops = inl (refl, same) })
begins_whole user moment (refused e) made d u v h same = inl h.0

shown_reply : (close : Bool) (what : Asked) (reply : RequestOutcome) → is_refused what ≡ reply.is_refusal → outcome_response close reply ≡ api_response close what (data_of reply.tree)
shown_reply close (asked r) reply is = rw (sym is) refl
shown_reply close (refused e) reply is = rw (sym is) refl

module _ (site : Site) (close : Bool) (message : Message) (user : ℕ) (told : ℤ) (routed : route site close message ≡ api user) where
  one_moment : 1 ≤ moments_for (route site close message)
  one_moment = subst (λ (r : Route). 1 ≤ moments_for r) (sym routed) (omega arith)

  stop_how : (u v : Shown) (made : List Made) (e : DeskError) → OutcomeHow (user_at site user) (clamped told) (asked_in message.body) made u v (Err e) → AnswerHow site close u v (exchange_at message told made []) (Err e)
  stop_how u v made e (inl h) = uncalled h.0 one_moment h.1 h.2
  stop_how u v made e (inr h) = called (record { user = user; routed = routed; moment = told; read = refl; begins = h })

  -- there was no memory for the bytes of the response
  cut_how : (u v : Shown) (made : List Made) → (made ≡ []) ⊎ BeginsReply (user_at site user) (clamped told) (asked_in message.body) made NoMemory u v → v ≡ u → AnswerHow site close u v (exchange_at message told made []) (Err NoMemory)
  cut_how u v made (inl none) same = uncalled refl one_moment none same
  cut_how u v made (inr b) same = called (record { user = user; routed = routed; moment = told; read = refl; begins = b })

  module _ {f0 f1 : List Front} {d0 d1 : Shown} {u : User} {w : ℤ} {bytes : List ℕ} (user_is : u ≡ user_at site user) (clamps : w ≡ clamped told) (body : bytes ≡ message.body) where
    of_message : (r : Result RequestOutcome DeskError) → IsOutcome u w (asked_in bytes) f0 f1 d0 d1 r → IsOutcome (user_at site user) (clamped told) (asked_in message.body) f0 f1 d0 d1 r
    of_message r = subst (λ (y : (User × ℤ) × List ℕ). IsOutcome y.0.0 y.0.1 (asked_in y.1) f0 f1 d0 d1 r) (λ i. ((user_is i, clamps i), body i))

  module _ {c0 c1 : Option (ℕ → ℤ)} {f0 f1 : List Front} {d0 d1 : Shown} (ticks : Ticks c0 c1 told) {u : User} {w : ℤ} {bytes : List ℕ} (user_is : u ≡ user_at site user) (clamps : w ≡ clamped told) (body : bytes ≡ message.body) where
    -- the desk made no more calls, or memory ran out
    pub stopped : (e : DeskError) → IsOutcome u w (asked_in bytes) f0 f1 d0 d1 (Err e) → AnswersMessage site close message c0 c1 f0 f1 d0 d1 (Err e)
    stopped e given =
        let r = of_message user_is clamps body (Err e) given in
        record { exchange = exchange_at message told r.made []; is = refl; desk = r.desk; told = told_one message told r.made [] ticks r.added r.chain r.few; how = stop_how r.desk d1 r.made e r.how }

    -- there was no memory for the bytes of the response
    pub unwritten : (reply : RequestOutcome) → IsOutcome u w (asked_in bytes) f0 f1 d0 d1 (Ok reply) → AnswersMessage site close message c0 c1 f0 f1 d0 d1 (Err NoMemory)
    unwritten reply given =
        let r = of_message user_is clamps body (Ok reply) given in
        record {
          exchange = exchange_at message told r.made [];
          is = refl;
          desk = r.desk;
          told = told_one message told r.made [] ticks r.added r.chain r.few;
          how = cut_how r.desk d1 r.made (begins_whole (user_at site user) (clamped told) (asked_in message.body) r.made (data_of reply.tree) r.desk d1 r.how.0 r.how.2) r.how.2;
        }

    pub answered : (reply : RequestOutcome) (v : Vec ℕ Global) → IsOutcome u w (asked_in bytes) f0 f1 d0 d1 (Ok reply) → v.items ≡ response_text (outcome_response close reply) → AnswersMessage site close message c0 c1 f0 f1 d0 d1 (Ok v)
    answered reply v given shows =
        let r = of_message user_is clamps body (Ok reply) given in
        record {
          exchange = exchange_at message told r.made v.items;
          is = refl;
          desk = r.desk;
          told = told_one message told r.made v.items ticks r.added r.chain r.few;
          how = (
            by_calls (record {
              user = user;
              routed = routed;
              moment = told;
              read = refl;
              reply = data_of reply.tree;
              replied = r.how.0;
              shows = shows ∙ ap response_text (shown_reply close (asked_in message.body) reply r.how.1);
            }),
            refl,
            r.how.2,
          );
        }
