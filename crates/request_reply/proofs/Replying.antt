-- What a batch made of a request is a reply to it.
use Rattle.std.proofs.Common.{◌≡◌, ℕ, ℤ, ◌≤◌, List, [], Bool, true, false, Result, Ok, Err, inl, inr, length, refl, sym, ap, ◌∙◌, subst, arith, append-nil}
use Rattle.std.proofs.lemmas.Bool.Decides.{nat_tests}
use Rattle.std.specs.Prelude.{◌<◌, nat_lt}
use Rattle.spec_batch.proofs.CallCounts.{few_asked, few_calls}
use Rattle.spec_batch.proofs.Chains.{still}
use Rattle.spec_batch.specs.Asked.{Asked, asked, asked_by, is_refused, refused}
use Rattle.spec_batch.specs.Batch.{IsBatch, IsBegun, IsStopped, IsUntouched, NextMeans, Step, made_in}
use Rattle.spec_core.specs.declared.limits.TheConstants.{MAX_SIZE_REQUEST}
use Rattle.spec_batch.specs.Reply.{BeginsReply, Replies, asked_by_reading, asked_in}
use Rattle.spec_json.specs.Json.{reading}
use Rattle.spec_batch.specs.declared.request.Limit.TheVariants.{SizeRequest}
use Rattle.spec_batch.specs.declared.request.RequestError.TheVariants.{Limit}
use Rattle.spec_batch.specs.Chain.{Shown, Stops}
use Rattle.spec_json.specs.Data.{Data}
use Rattle.spec_json.specs.TreeData.{data_of}
use Rattle.spec_batch.specs.declared.desk.DeskError.{DeskError}
use Rattle.spec_batch.specs.declared.desk.DeskError.TheVariants.{PassSpent, NoMemory}
use Rattle.spec_batch.specs.declared.desk.Front.{Front}
use Rattle.spec_batch.specs.declared.request.BatchError.{BatchError}
use Rattle.spec_batch.specs.declared.request.BatchError.TheVariants as batch
use Rattle.spec_batch.specs.declared.request.Invocation.{Invocation}
use Rattle.spec_batch.specs.declared.request.RequestError.{RequestError}
use Rattle.spec_json.specs.declared.tree.Tree.{Tree}
use Rattle.spec_core.specs.declared.user.User.{User}
use Rattle.request_reply.specs.Outcomes.{IsProblem, IsOutcome}
use Rattle.request_reply.specs.declared.reply.RequestOutcome.{RequestOutcome}

module _ {user : User} {moment : ℤ} where
  -- ---- nothing was called

  pub no_reply : {what : Asked} {f : List Front} {d : Shown} → IsOutcome user moment what f f d d (Err NoMemory)
  no_reply {what} {f} {d} = record { made = []; desk = d; chain = still d; added = sym (append-nil f); few = omega arith; how = inl (refl, refl, refl) }

  pub refused_reply : {what : Asked} {e : RequestError} {f : List Front} {d : Shown} (r : Result RequestOutcome DeskError) → what ≡ refused e → IsProblem e r → IsOutcome user moment what f f d d r
  refused_reply {what} {e} {f} {d} (Ok reply) is h = record {
    made = [];
    desk = d;
    chain = still d;
    added = sym (append-nil f);
    few = omega arith;
    how = (subst (λ (a : Asked). Replies user moment a [] (data_of reply.tree)) (sym is) (refl, h.0), ap is_refused is ∙ sym h.1, refl);
  }
  refused_reply {what} {e} {f} {d} (Err x) is h = subst (λ (y : DeskError). IsOutcome user moment what f f d d (Err y)) (sym h) no_reply

  -- ---- the desk was asked

  module _ (d : Data) {f0 f1 : List Front} {d0 : Shown} where
    begins_of : (e : DeskError) (u v : Shown) (steps : List Step) (rest : List Invocation) (b : IsBegun user moment d f0 f1 d0 u steps rest) → Stops (NextMeans user b.request moment steps rest) moment e u v
        → BeginsReply user moment (asked_by d) (made_in steps) e u v
    begins_of e u v steps rest b stops =
        record { request = b.request; is_request = b.is_asked; steps = steps; rest = rest; invoked = b.progress.invoked; fit = b.progress.fit; made_is = refl; stops = stops }

    few_made : (u : Shown) (steps : List Step) (rest : List Invocation) → IsBegun user moment d f0 f1 d0 u steps rest → length (made_in steps) ≤ 16
    few_made u steps rest b =
        (let few = few_asked d b.request b.is_asked in let made = few_calls b.request steps rest b.progress.invoked in omega arith)

  module _ (d : Data) {f0 f1 : List Front} {d0 d1 : Shown} where
    pub batch_reply : (tree : Tree) → IsBatch user moment d f0 f1 d0 d1 (Ok tree) → IsOutcome user moment (asked_by d) f0 f1 d0 d1 (Ok (record { tree = tree; is_refusal = false }))
    batch_reply tree b =
        let begun = b.1 in
        let invoked = begun.progress.invoked ∙ append-nil _ in
        record {
          made = made_in b.0;
          desk = d1;
          chain = begun.progress.chain;
          added = begun.progress.fronts_grew;
          few = few_made d d1 b.0 [] begun;
          how = (subst (λ (a : Asked). Replies user moment a (made_in b.0) (data_of tree)) (sym begun.is_asked) (b.0, invoked, begun.progress.fit, refl, b.2), ap is_refused begun.is_asked, refl);
        }

    stopped_reply : (e : DeskError) → IsStopped user moment d f0 f1 d0 d1 e → IsOutcome user moment (asked_by d) f0 f1 d0 d1 (Err e)
    stopped_reply e b = record {
      made = made_in b.0;
      desk = b.2;
      chain = b.3.progress.chain;
      added = b.3.progress.fronts_grew;
      few = few_made d b.2 b.0 b.1 b.3;
      how = inr (begins_of d e b.2 d1 b.0 b.1 b.3 b.4);
    }

    untouched_reply : (r : Result RequestOutcome DeskError) → IsUntouched user moment d f0 f1 d0 d1 → IsOutcome user moment (asked_by d) f0 f0 d0 d0 r → IsOutcome user moment (asked_by d) f0 f1 d0 d1 r
    untouched_reply r u x = subst (λ (y : List Front × Shown). IsOutcome user moment (asked_by d) f0 y.0 d0 y.1 r) (λ i. (sym u.1 i, sym u.0 i)) x

    pub spent_reply : IsBatch user moment d f0 f1 d0 d1 (Err batch.PassSpent) → IsOutcome user moment (asked_by d) f0 f1 d0 d1 (Err PassSpent)
    spent_reply b = stopped_reply PassSpent b

    pub memory_reply : IsBatch user moment d f0 f1 d0 d1 (Err batch.NoMemory) → IsOutcome user moment (asked_by d) f0 f1 d0 d1 (Err NoMemory)
    memory_reply (inl u) = untouched_reply (Err NoMemory) u no_reply
    memory_reply (inr b) = stopped_reply NoMemory b

    pub refused_batch_reply : (e : RequestError) (r : Result RequestOutcome DeskError) → IsBatch user moment d f0 f1 d0 d1 (Err (batch.Refused e)) → IsProblem e r → IsOutcome user moment (asked_by d) f0 f1 d0 d1 r
    refused_batch_reply e r b h = untouched_reply r b.1 (refused_reply r b.0 h)

module _ {user : User} {moment : ℤ} (d : Data) {f0 f1 : List Front} {d0 d1 : Shown} where
  pub refused_of_batch : {x : BatchError} (e : RequestError) (r : Result RequestOutcome DeskError) → IsBatch user moment d f0 f1 d0 d1 (Err x) → x ≡ batch.Refused e → IsProblem e r → IsOutcome user moment (asked_by d) f0 f1 d0 d1 r
  refused_of_batch e r b is h = refused_batch_reply d e r (subst (λ (y : BatchError). IsBatch user moment d f0 f1 d0 d1 (Err y)) is b) h

  pub spent_of_batch : {x : BatchError} → IsBatch user moment d f0 f1 d0 d1 (Err x) → x ≡ batch.PassSpent → IsOutcome user moment (asked_by d) f0 f1 d0 d1 (Err PassSpent)
  spent_of_batch b is = spent_reply d (subst (λ (y : BatchError). IsBatch user moment d f0 f1 d0 d1 (Err y)) is b)

  pub memory_of_batch : {x : BatchError} → IsBatch user moment d f0 f1 d0 d1 (Err x) → x ≡ batch.NoMemory → IsOutcome user moment (asked_by d) f0 f1 d0 d1 (Err NoMemory)
  memory_of_batch b is = memory_reply d (subst (λ (y : BatchError). IsBatch user moment d f0 f1 d0 d1 (Err y)) is b)

pub over_limit : (bytes : List ℕ) → MAX_SIZE_REQUEST < length bytes → asked_in bytes ≡ refused (Limit SizeRequest)
over_limit bytes h =
    let over : nat_lt MAX_SIZE_REQUEST (length bytes) ≡ true = search (arith, nat_tests, h) in
    rw over refl

pub as_read : (bytes : List ℕ) → length bytes ≤ MAX_SIZE_REQUEST → asked_in bytes ≡ asked_by_reading (reading bytes)
as_read bytes h =
    let within : nat_lt MAX_SIZE_REQUEST (length bytes) ≡ false = search (arith, nat_tests, h) in
    rw within refl
