-- A code of `Data`, by which proofs tell its values apart.
use Rattle.std.specs.Prelude.{◌≡◌, ℕ, List}
use Rattle.std.proofs.Common.{ap, refl}
use base.Stored.{Gv, gnil, gnum, gcons, Coded, coded_ℕ, coded_ℤ, coded_bool, coded_list, coded×}
use Rattle.spec_json.specs.Data.{Data, null, truth, whole, text, list, object, Items, no_items, item, Members, no_members, member, Pair}

abbrev head : Gv → Gv
head gnil = gnil
head (gnum n) = gnil
head (gcons a b) = a

abbrev tail : Gv → Gv
tail gnil = gnil
tail (gnum n) = gnil
tail (gcons a b) = b

abbrev bytes_code : Coded (List ℕ)
bytes_code = coded_list coded_ℕ

abbrev mutual
  code_d : Data → Gv
  code_d null = gnil
  code_d (truth b) = gcons (gnum 1) (coded_bool.code b)
  code_d (whole n) = gcons (gnum 2) (coded_ℤ.code n)
  code_d (text s) = gcons (gnum 3) (bytes_code.code s)
  code_d (list ds) = gcons (gnum 4) (code_i ds)
  code_d (object ms) = gcons (gnum 5) (code_m ms)

  code_i : Items → Gv
  code_i no_items = gnil
  code_i (item d ds) = gcons (code_d d) (code_i ds)

  code_m : Members → Gv
  code_m no_members = gnil
  code_m (member k d ms) = gcons (bytes_code.code k) (gcons (code_d d) (code_m ms))

mutual
  pub inj_d : (x y : Data) → code_d x ≡ code_d y → x ≡ y
  inj_d null null p = refl
  inj_d (truth a) (truth b) p = ap truth (coded_bool.inj a b (ap tail p))
  inj_d (whole a) (whole b) p = ap whole (coded_ℤ.inj a b (ap tail p))
  inj_d (text a) (text b) p = ap text (bytes_code.inj a b (ap tail p))
  inj_d (list a) (list b) p = ap list (inj_i a b (ap tail p))
  inj_d (object a) (object b) p = ap object (inj_m a b (ap tail p))
  inj_d _ _ p = cc

  pub inj_i : (x y : Items) → code_i x ≡ code_i y → x ≡ y
  inj_i no_items no_items p = refl
  inj_i (item a ds) (item b es) p = λ i. item (inj_d a b (ap head p) i) (inj_i ds es (ap tail p) i)
  inj_i _ _ p = cc

  pub inj_m : (x y : Members) → code_m x ≡ code_m y → x ≡ y
  inj_m no_members no_members p = refl
  inj_m (member k a ms) (member l b ns) p = λ i. member (bytes_code.inj k l (ap head p) i) (inj_d a b (ap (λ g. head (tail g)) p) i) (inj_m ms ns (ap (λ g. tail (tail g)) p) i)
  inj_m _ _ p = cc

abbrev pub data_code : Coded Data
data_code = record { code = code_d; inj = inj_d }

abbrev pub pair_code : Coded Pair
pair_code = coded× bytes_code data_code
