-- The accounts of a session object, from any of the grants on.
use Rattle.std.proofs.Common.{◌≡◌, ℕ, List, [], ◌∷◌, ◌++◌, Bool, true, false, codes, map, refl, ap}
use Rattle.spec_json.specs.Data.{Pair, members_of, object, text}
use Rattle.spec_json.specs.Edit.{put_all}
use Rattle.spec_site.specs.Configuration.{Site}
use Rattle.spec_site.specs.SessionObject.{account_member, account_members, capabilities, primary_accounts, session_object}
use Rattle.spec_core.specs.declared.user.Grant.{Grant}
use Rattle.spec_core.specs.declared.user.User.{User}

module _ (site : Site) where
  abbrev pub members_from : Bool → List Grant → List Pair
  members_from is_first [] = []
  members_from is_first (g ∷ gs) = account_member site is_first g ∷ members_from false gs

  all_others : (gs : List Grant) → map (account_member site false) gs ≡ members_from false gs
  all_others [] = refl
  all_others (g ∷ gs) = ap (λ ps. account_member site false g ∷ ps) (all_others gs)

  pub from_first : (gs : List Grant) → account_members site gs ≡ members_from true gs
  from_first [] = refl
  from_first (g ∷ gs) = ap (λ ps. account_member site true g ∷ ps) (all_others gs)

  -- the members put together, in two parts
  abbrev pub leading_members : List ℕ → List Grant → List Pair
  leading_members base grants =
      (codes "accounts", object (members_of (put_all (account_members site grants) []))) ∷ (codes "apiUrl", text (base ++ codes "/jmap")) ∷ (codes "capabilities", capabilities site.web_socket_url)
      ∷ (codes "downloadUrl", text (base ++ codes "/download/{accountId}/{blobId}/{name}?accept={type}")) ∷ []

  abbrev pub trailing_members : List ℕ → List Grant → List ℕ → List Pair
  trailing_members base grants name =
      (codes "eventSourceUrl", text (base ++ codes "/events?types={types}&closeafter={closeafter}&ping={ping}")) ∷ (codes "primaryAccounts", primary_accounts site grants)
      ∷ (codes "state", text (codes "1")) ∷ (codes "uploadUrl", text (base ++ codes "/upload/{accountId}")) ∷ (codes "username", text name) ∷ []

  pub members_together : (user : User) (base : List ℕ) (grants others : List Grant) (name : List ℕ) → base ≡ site.base_url → grants ≡ user.grants → others ≡ user.grants → name ≡ user.name
      → object (members_of (leading_members base grants ++ trailing_members base others name)) ≡ session_object site user
  members_together user base grants others name a b c d = rw (a, b, c, d) refl
