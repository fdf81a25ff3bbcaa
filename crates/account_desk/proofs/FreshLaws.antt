-- The laws of a desk that was just opened.
use Rattle.std.proofs.Common.{◌≡◌, ℕ, ℤ, List, refl}
use Rattle.account_desk.specs.FreshDesk.{IsSole, fresh_desk}
use Rattle.spec_batch.specs.Asked.{Asked}
use Rattle.spec_batch.specs.Chain.{Made, Chain, Shown, on}
use Rattle.spec_connection.specs.Exchanges.{Exchange, all_bytes, messages_of}
use Rattle.spec_core.specs.declared.user.User.{User}
use Rattle.spec_json.specs.Data.{Data}
use Rattle.spec_site.specs.Configuration.{Site}
use Rattle.account_desk.proofs.ConnectionLemmas.{connections_determined}
use Rattle.account_desk.proofs.ReplyLemmas.{replies_determined}
use Rattle.account_desk.proofs.TurnLemmas.{answered_in_turn}
use Rattle.account_desk.specs.Determined.{AreAlike, RepliesAlone, ServesAlone}
use Rattle.account_desk.specs.InTurn.{InTurn}

module _ (site : Site) where
  fresh_are_alike : AreAlike (fresh_desk site) (fresh_desk site)
  fresh_are_alike = record { rules = refl; rules' = refl; base = λ k. refl; changes = λ k. refl }

  pub fresh_answered_in_turn : (t : Shown) (ms : List Made) → Chain (fresh_desk site) t ms → IsSole t → (k : ℕ) → InTurn 0 (on k ms)
  fresh_answered_in_turn t ms chain sole = answered_in_turn (fresh_desk site) t ms chain sole

  pub fresh_replies_determined : (user : User) (moment : ℤ) (a : Asked) (x y : Data) → RepliesAlone (fresh_desk site) user moment a x → RepliesAlone (fresh_desk site) user moment a y → x ≡ y
  fresh_replies_determined user moment a x y first second = (replies_determined (fresh_desk site) (fresh_desk site) user moment a x y fresh_are_alike first second).0

  pub fresh_connections_determined : (most : ℕ) (clock : ℕ → ℤ) (xs ys : List Exchange) → ServesAlone (fresh_desk site) site most clock xs → ServesAlone (fresh_desk site) site most clock ys
      → messages_of xs ≡ messages_of ys → all_bytes xs ≡ all_bytes ys
  fresh_connections_determined most clock xs ys first second said = connections_determined (fresh_desk site) (fresh_desk site) site most clock xs ys fresh_are_alike first second said
