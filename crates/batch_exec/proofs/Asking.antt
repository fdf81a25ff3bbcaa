-- A call on an account is one more call of a chain.
use Rattle.std.proofs.Common.{◌≡◌, ℕ, ℤ, List, [], ◌∷◌, ◌++◌, Ok, Err, inr, refl, sym, ◌∙◌, append-nil}
use Rattle.spec_batch.proofs.Chains.{made_of}
use Rattle.spec_batch.specs.Chain.{Called, Shown}
use Rattle.spec_calls.specs.declared.call.Call.{Call}
use Rattle.spec_calls.specs.declared.call.Reply.{Reply}
use Rattle.spec_batch.specs.declared.desk.DeskError.{DeskError}
use Rattle.spec_batch.specs.declared.desk.Front.{Front}
use Rattle.batch_exec.specs.Stepping.{IsDeskReply, Makes}

pub asking_ok : {fronts fronts' : List Front} {s t : Shown} {account : ℕ} {call : Call} {reply : Reply} (moment : ℤ) → Called s t account call moment (Ok reply)
    → fronts' ≡ fronts ++ record { account = account; place = reply.place } ∷ [] → IsDeskReply fronts fronts' s t account call moment (Ok reply)
asking_ok {fronts} {fronts'} {s} {t} {account} {call} {reply} moment called front = (
  made_of t account call moment reply,
  record {
    makes = record { chain = (t, (called, refl, refl), refl); fronts_grew = front };
    on_account = refl;
    asked = refl;
    at_moment = refl;
  },
  refl,
)

pub asking_err : {fronts fronts' : List Front} (s t : Shown) (account : ℕ) (call : Call) (moment : ℤ) (e : DeskError) → Called s t account call moment (Err e)
    → fronts' ≡ fronts → IsDeskReply fronts fronts' s t account call moment (Err e)
asking_err s t account call moment e called same = (same, inr (account, call, (refl, refl), called))

-- no desk was asked
pub unasked : {fronts fronts' : List Front} {s t : Shown} → t ≡ s → fronts' ≡ fronts → Makes fronts fronts' s t []
unasked {fronts} {fronts'} {s} {t} is same = record { chain = is; fronts_grew = same ∙ sym (append-nil fronts) }
