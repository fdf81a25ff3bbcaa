-- The reply to a text.
use Rattle.std.proofs.Common.{◌≡◌, ℕ, ℤ, ◌≤◌, ◌<◌, List, [], Bool, true, false, Option, None, Result, Ok, Err, Vec, inl, inr, length, refl, sym, ap, ◌∙◌, subst, arith, append-nil}
use Rattle.std.specs.Prelude.{◌⊎◌, nat_lt}
use Rattle.std.proofs.lemmas.Bool.Decides.{nat_tests}
use Rattle.std.specs.declared.alloc.Global.{Global}
use Rattle.spec_batch.proofs.Chains.{still}
use Rattle.spec_batch.specs.Asked.{Asked, asked, asked_by, refused}
use Rattle.spec_batch.specs.Chain.{Made, Shown}
use Rattle.spec_batch.specs.Problem.{problem}
use Rattle.spec_batch.specs.Reply.{BeginsReply, Replies}
use Rattle.spec_batch.specs.declared.desk.DeskError.{DeskError}
use Rattle.spec_batch.specs.declared.desk.DeskError.TheVariants.{NoMemory}
use Rattle.spec_batch.specs.declared.desk.Front.{Front}
use Rattle.spec_batch.specs.declared.request.Limit.TheVariants.{SizeRequest}
use Rattle.spec_batch.specs.declared.request.RequestError.{RequestError}
use Rattle.spec_batch.specs.declared.request.RequestError.TheVariants.{Limit, NotRequest}
use Rattle.spec_core.specs.declared.limits.TheConstants.{MAX_SIZE_REQUEST}
use Rattle.spec_core.specs.declared.user.User.{User}
use Rattle.spec_json.specs.Data.{Data}
use Rattle.spec_json.specs.Json.{Reading, reading, text_of}
use Rattle.spec_json.specs.TreeData.{data_of}
use Rattle.request_reply.specs.Outcomes.{IsOutcome}
use Rattle.request_reply.specs.declared.reply.RequestOutcome.{RequestOutcome}
use Rattle.spec_sockets.specs.Texts.{asked_by_marked, marked_by_reading, asked_in_text, id_in_text, id_by_reading, is_marked, marked}
use Rattle.spec_sockets.specs.Switches.{switch_by_reading, switch_in_text}
use Rattle.spec_sockets.specs.declared.switch.Switch.{Switch}
use Rattle.ws_serve.specs.Answering.{IsAnswerTo, replied_as}
use Rattle.ws_serve.specs.Valued.{IsAnsweredAs, IsRefusalText}
use Rattle.ws_serve.specs.declared.reply.TextAnswer.{TextAnswer}
use Rattle.spec_sockets.specs.Exchanges.{IsCutOff, IsReplyText}

begins_whole : (user : User) (moment : ℤ) (what : Asked) (made : List Made) (d : Data) (u v : Shown) → Replies user moment what made d → v ≡ u → ((NoMemory ≡ NoMemory) × (made ≡ []) × (v ≡ u)) ⊎ BeginsReply user moment what made NoMemory u v
begins_whole user moment (asked r) made d u v h same =
    inr (record { request = r; is_request = refl; steps = h.0; rest = []; invoked = h.1 ∙ sym (append-nil _); fit = h.2; made_is = h.3; stops = inl (refl, same) })
begins_whole user moment (refused e) made d u v h same = inl (refl, h.0, same)

-- an answer whose reply can't be given ends for want of memory
pub unsaid : (user : User) (moment : ℤ) (what : Asked) (id : Option (List ℕ)) (made : List Made) (u v : Shown) (bytes : List ℕ) → IsReplyText user moment what id made bytes → v ≡ u → IsCutOff user moment what id made NoMemory u v
unsaid user moment what id made u v bytes h same = begins_whole user moment what made h.0 u v h.1 same

module _ {user : User} {moment : ℤ} {id : Option (List ℕ)} where
  pub no_answer : {what : Asked} {f : List Front} {d : Shown} → IsAnsweredAs user moment what id f f d d (Err NoMemory)
  no_answer {what} {f} {d} = record { made = []; desk = d; chain = still d; added = sym (append-nil f); few = omega arith; how = inl (refl, refl, refl) }

  pub refused_answer : {what : Asked} {e : RequestError} {f : List Front} {d : Shown} (r : Result (Vec ℕ Global) DeskError) → what ≡ refused e → IsRefusalText e id r → IsAnsweredAs user moment what id f f d d r
  refused_answer {what} {e} {f} {d} (Ok bytes) is h = subst (λ (a : Asked). IsAnsweredAs user moment a id f f d d (Ok bytes)) (sym is) (record {
    made = [];
    desk = d;
    chain = still d;
    added = sym (append-nil f);
    few = omega arith;
    how = ((problem e, (refl, refl), h), refl);
  })
  refused_answer {what} {e} {f} {d} (Err x) is h = subst (λ (y : DeskError). IsAnsweredAs user moment what id f f d d (Err y)) (sym h) no_answer

  module _ {what : Asked} {f0 f1 : List Front} {d0 d1 : Shown} where
    pub said : (reply : RequestOutcome) (v : Vec ℕ Global) → IsOutcome user moment what f0 f1 d0 d1 (Ok reply) → v.items ≡ text_of (marked reply.is_refusal id (data_of reply.tree)) → IsAnsweredAs user moment what id f0 f1 d0 d1 (Ok v)
    said reply v o shows = record {
      made = o.made;
      desk = o.desk;
      chain = o.chain;
      added = o.added;
      few = o.few;
      how = ((data_of reply.tree, o.how.0, shows ∙ ap (λ (b : Bool). text_of (marked b id (data_of reply.tree))) (sym o.how.1)), o.how.2);
    }

    pub not_said : (reply : RequestOutcome) → IsOutcome user moment what f0 f1 d0 d1 (Ok reply) → IsAnsweredAs user moment what id f0 f1 d0 d1 (Err NoMemory)
    not_said reply o = record {
      made = o.made;
      desk = o.desk;
      chain = o.chain;
      added = o.added;
      few = o.few;
      how = begins_whole user moment what o.made (data_of reply.tree) o.desk d1 o.how.0 o.how.2;
    }

    pub stopped : (e : DeskError) → IsOutcome user moment what f0 f1 d0 d1 (Err e) → IsAnsweredAs user moment what id f0 f1 d0 d1 (Err e)
    stopped e o = record { made = o.made; desk = o.desk; chain = o.chain; added = o.added; few = o.few; how = o.how }

-- what was asked, and by which id
pub as_asked : {user : User} {moment : ℤ} {f0 f1 : List Front} {d0 d1 : Shown} (r : Result (Vec ℕ Global) DeskError) (what : Asked) (id : Option (List ℕ)) (what' : Asked) (id' : Option (List ℕ)) → what' ≡ what → id' ≡ id → IsAnsweredAs user moment what id f0 f1 d0 d1 r → IsAnsweredAs user moment what' id' f0 f1 d0 d1 r
as_asked {user} {moment} {f0} {f1} {d0} {d1} r what id what' id' a b h = subst (λ (y : Asked × Option (List ℕ)). IsAnsweredAs user moment y.0 y.1 f0 f1 d0 d1 r) (λ i. (sym a i, sym b i)) h

pub is_unmarked : (d : Data) → is_marked d ≡ false → asked_by_marked d ≡ refused NotRequest
is_unmarked d h = rw h refl

pub as_marked : (d : Data) → is_marked d ≡ true → asked_by_marked d ≡ asked_by d
as_marked d h = rw h refl

pub over_limit : (bytes : List ℕ) → MAX_SIZE_REQUEST < length bytes → (asked_in_text bytes ≡ refused (Limit SizeRequest)) × (id_in_text bytes ≡ None) × (switch_in_text bytes ≡ None)
over_limit bytes h =
    let over : nat_lt MAX_SIZE_REQUEST (length bytes) ≡ true = search (arith, nat_tests, h) in
    (rw over refl, rw over refl, rw over refl)

pub as_read : (bytes : List ℕ) (r : Reading) → length bytes ≤ MAX_SIZE_REQUEST → reading bytes ≡ r
    → (asked_in_text bytes ≡ marked_by_reading r) × (id_in_text bytes ≡ id_by_reading r) × (switch_in_text bytes ≡ switch_by_reading r)
as_read bytes r h is =
    let within : nat_lt MAX_SIZE_REQUEST (length bytes) ≡ false = search (arith, nat_tests, h) in
    (rw within (ap marked_by_reading is), rw within (ap id_by_reading is), rw within (ap switch_by_reading is))

-- ---- texts that may be switches

module _ {user : User} {moment : ℤ} {f0 f1 : List Front} {d0 d1 : Shown} where
  as_replied : (r : Result (Vec ℕ Global) DeskError) (switch : Option Switch) (what : Asked) (id : Option (List ℕ)) → switch ≡ None → IsAnsweredAs user moment what id f0 f1 d0 d1 r
      → IsAnswerTo user moment switch what id f0 f1 d0 d1 (replied_as r)
  as_replied (Ok bytes) switch what id none h = (none, h)
  as_replied (Err e) switch what id none h = h

  -- a text that is no switch has a reply
  pub replied_answer : (r : Result (Vec ℕ Global) DeskError) (answer : Result TextAnswer DeskError) (switch : Option Switch) (what : Asked) (id : Option (List ℕ)) → answer ≡ replied_as r → switch ≡ None
      → IsAnsweredAs user moment what id f0 f1 d0 d1 r → IsAnswerTo user moment switch what id f0 f1 d0 d1 answer
  replied_answer r answer switch what id is none h = subst (IsAnswerTo user moment switch what id f0 f1 d0 d1) (sym is) (as_replied r switch what id none h)

-- what a text is, asks for, and by which id
pub answer_as : (user : User) (moment : ℤ) (f0 f1 : List Front) (d0 d1 : Shown) (answer : Result TextAnswer DeskError) (switch switch' : Option Switch) (what what' : Asked) (id id' : Option (List ℕ)) → switch' ≡ switch → what' ≡ what → id' ≡ id
    → IsAnswerTo user moment switch what id f0 f1 d0 d1 answer → IsAnswerTo user moment switch' what' id' f0 f1 d0 d1 answer
answer_as user moment f0 f1 d0 d1 answer switch switch' what what' id id' a b c h =
    subst (λ (y : (Option Switch × Asked) × Option (List ℕ)). IsAnswerTo user moment y.0.0 y.0.1 y.1 f0 f1 d0 d1 answer) (λ i. ((sym a i, sym b i), sym c i)) h
