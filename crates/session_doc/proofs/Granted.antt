-- Every grant of a site is of an account of the site.
use Rattle.std.proofs.Common.{arith, ◌≡◌, ℕ, ◌<◌, ◌≤◌, List, [], ◌∷◌, Bool, true, false, Option, Some, None, option_map, option_and_then, Result, Ok, Err, codes, All, length, position, refl, subst}
use Rattle.std.proofs.lemmas.List.Elements.{All-cons, All-head, All-tail}
use Rattle.std.proofs.lemmas.List.Quantifiers.{position-Some}
use Rattle.std.proofs.lemmas.Option.{option_and_then_some}
use Rattle.std.specs.Result.{result_ok}
use Rattle.std.specs.Str.{bytes_eq}
use Rattle.spec_json.specs.Data.{Data, field}
use Rattle.spec_json.specs.Parts.{as_text, list_at, text_at}
use Rattle.spec_site.specs.declared.limits.TheConstants.{MAX_ACCOUNTS, MAX_USERS}
use Rattle.spec_site.specs.Configuration.{SiteAccount, SiteUser, account_in, accounts_in, grant_in, grant_to, grants_in, has_grant, is_good_token, is_good_user_name, optional_list, passing, read_behind, restrict, restrict_all, user_grants, user_in, users_in}
use Rattle.spec_core.specs.declared.user.Grant.{Grant}
use Rattle.session_doc.proofs.ReadLists.{all_read, least_read, list_read, most_read}

abbrev IsBelow : ℕ → Grant → Type 0
IsBelow n g = g.account < n

read_some : {X : Type 0} (r : Result X ℕ) (x : X) → result_ok r ≡ Some x → r ≡ Ok x
read_some (Ok y) x e = cc
read_some (Err i) x e = cc

module _ (n : ℕ) where
  restrict_keeps : (id : List ℕ) (gs hs : List Grant) → restrict id gs ≡ Some hs → All (IsBelow n) gs → All (IsBelow n) hs
  restrict_keeps id [] hs e h = cc
  restrict_keeps id (g ∷ gs) hs e h = by_id (bytes_eq g.id id) refl (λ ks f. restrict_keeps id gs ks f (All-tail (IsBelow n) g gs h))
    where
      by_mark : (b : Bool) → g.read_only ≡ b → bytes_eq g.id id ≡ true → All (IsBelow n) hs
      by_mark true r is = let f = rw (is, r) at e in cc
      by_mark false r is =
          let f = rw (is, r) at e in
          let same : record { account = g.account; id = g.id; read_only = true } ∷ gs ≡ hs = cc in
          subst (λ (ks : List Grant). All (IsBelow n) ks) same (All-cons (IsBelow n) (record { account = g.account; id = g.id; read_only = true }) gs (All-head (IsBelow n) g gs h) (All-tail (IsBelow n) g gs h))

      by_rest : (o : Option (List Grant)) → restrict id gs ≡ o → option_map (λ ks. g ∷ ks) o ≡ Some hs → ((ks : List Grant) → restrict id gs ≡ Some ks → All (IsBelow n) ks) → All (IsBelow n) hs
      by_rest None is f rest = cc
      by_rest (Some ks) is f rest = let same : g ∷ ks ≡ hs = cc in subst (λ (ls : List Grant). All (IsBelow n) ls) same (All-cons (IsBelow n) g ks (All-head (IsBelow n) g gs h) (rest ks is))

      by_id : (b : Bool) → bytes_eq g.id id ≡ b → ((ks : List Grant) → restrict id gs ≡ Some ks → All (IsBelow n) ks) → All (IsBelow n) hs
      by_id true is rest = by_mark g.read_only refl is
      by_id false is rest = by_rest (restrict id gs) refl (rw is at e) rest

  restrict_all_keeps : (ds : List Data) (gs hs : List Grant) → restrict_all ds gs ≡ Some hs → All (IsBelow n) gs → All (IsBelow n) hs
  restrict_all_keeps [] gs hs e h = let same : gs ≡ hs = cc in subst (λ (ks : List Grant). All (IsBelow n) ks) same h
  restrict_all_keeps (d ∷ ds) gs hs e h =
      option_and_then_some (restrict_all ds) (option_and_then (λ id. restrict id gs) (as_text d)) hs e (λ ks f rest.
      option_and_then_some (λ id. restrict id gs) (as_text d) ks f (λ id is r. restrict_all_keeps ds ks hs rest (restrict_keeps id gs ks r h)))

module _ (accounts : List SiteAccount) where
  at_place : (id : List ℕ) (o : Option ℕ) (g : Grant) → position (λ a. bytes_eq a.id id) accounts ≡ o → option_map (λ n. record { account = n; id = id; read_only = false }) o ≡ Some g → IsBelow (length accounts) g
  at_place id None g is e = cc
  at_place id (Some n) g is e =
      let it = position-Some (λ (a : SiteAccount). bytes_eq a.id id) accounts n (record { id = []; name = [] }) is in
      let same : n ≡ g.account = cc in
      subst (λ (m : ℕ). m < length accounts) same it.0

  grant_below : (earlier : List Grant) (id : List ℕ) (g : Grant) (b : Bool) → has_grant earlier id ≡ b → grant_to accounts earlier id ≡ Some g → IsBelow (length accounts) g
  grant_below earlier id g true is e = let f = rw is at e in cc
  grant_below earlier id g false is e = at_place id (position (λ a. bytes_eq a.id id) accounts) g refl (rw is at e)

  item_below : (earlier : List Grant) (d : Data) (g : Grant) → grant_in accounts earlier d ≡ Some g → IsBelow (length accounts) g
  item_below earlier d g e = option_and_then_some (grant_to accounts earlier) (as_text d) g e (λ id is f. grant_below earlier id g (has_grant earlier id) refl f)

  read_below : (ds : List Data) (gs : List Grant) → grants_in accounts ds ≡ Some gs → All (IsBelow (length accounts)) gs
  read_below ds gs e = all_read (grant_in accounts) (IsBelow (length accounts)) item_below ds gs (read_some (read_behind (grant_in accounts) [] ds) gs e)

  grants_below : (d : Data) (gs : List Grant) → user_grants accounts d ≡ Some gs → All (IsBelow (length accounts)) gs
  grants_below d gs e =
      option_and_then_some (λ ds. option_and_then (restrict_all ds) (option_and_then (grants_in accounts) (list_at (codes "accounts") d))) (optional_list (field (codes "readOnly") d)) gs e (λ ds is f.
      option_and_then_some (restrict_all ds) (option_and_then (grants_in accounts) (list_at (codes "accounts") d)) gs f (λ hs g r.
      option_and_then_some (grants_in accounts) (list_at (codes "accounts") d) hs g (λ es has n. restrict_all_keeps (length accounts) ds hs gs r (read_below es hs n))))

  abbrev HasAccounts : SiteUser → Type 0
  HasAccounts u = All (IsBelow (length accounts)) u.user.grants

  user_has : (earlier : List SiteUser) (d : Data) (u : SiteUser) → user_in accounts earlier d ≡ Some u → HasAccounts u
  user_has earlier d u e =
      option_and_then_some (λ name. option_and_then (λ token. option_map (λ grants. record { token = token; user = record { name = name; grants = grants } }) (user_grants accounts d)) (passing (is_good_token earlier) (text_at (codes "token") d))) (passing (is_good_user_name earlier) (text_at (codes "name") d)) u e (λ name is f.
      option_and_then_some (λ token. option_map (λ grants. record { token = token; user = record { name = name; grants = grants } }) (user_grants accounts d)) (passing (is_good_token earlier) (text_at (codes "token") d)) u f (λ token has g.
      by_grants name token (user_grants accounts d) refl g))
    where
      by_grants : (name token : List ℕ) (o : Option (List Grant)) → user_grants accounts d ≡ o → option_map (λ grants. record { token = token; user = record { name = name; grants = grants } }) o ≡ Some u → HasAccounts u
      by_grants name token None is e = cc
      by_grants name token (Some gs) is e =
          let same : record { token = token; user = record { name = name; grants = gs } } ≡ u = cc in
          subst (λ (v : SiteUser). HasAccounts v) same (grants_below d gs is)

  pub users_few : (d : Data) (us : List SiteUser) → users_in accounts d ≡ Ok us → length us ≤ MAX_USERS
  users_few d us e = most_read (user_in accounts) 1 64 (list_at (codes "users") d) us e

  pub users_some : (d : Data) (us : List SiteUser) → users_in accounts d ≡ Ok us → 0 < length us
  users_some d us e = let some = least_read (user_in accounts) 1 64 (list_at (codes "users") d) us e in omega (arith, some)

  pub users_have : (d : Data) (us : List SiteUser) → users_in accounts d ≡ Ok us → All HasAccounts us
  users_have d us e =
      let it = list_read (user_in accounts) 1 64 (list_at (codes "users") d) us e in
      all_read (user_in accounts) HasAccounts user_has it.0 us it.2

pub accounts_few : (d : Data) (accounts : List SiteAccount) → accounts_in d ≡ Ok accounts → length accounts ≤ MAX_ACCOUNTS
accounts_few d accounts e = most_read account_in 1 16 (list_at (codes "accounts") d) accounts e
