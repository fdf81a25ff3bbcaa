-- The grammar's loops, a turn at a time, under the conversion to trees.
use Rattle.std.proofs.Common.{◌≡◌, Bool, true, false, ℕ, zero, suc, ◌-◌, ◌<◌, ◌≤◌, List, [], ◌∷◌, ◌++◌, length, Option, Some, None, option_map, option_and_then, refl, sym, ap, ◌∙◌, append_assoc, append-nil}
use Rattle.json.specs.Token.{Token}
use Rattle.json.specs.Json as json
use Rattle.json.specs.Json.{Parse, parse_map, after_end_array, read_key, items_step, items, members}
use Rattle.json.proofs.Grammar.{items_end, items_more, members_end, members_no_key, members_more}
use Rattle.serde_json.specs.Data as serde
use Rattle.serde_json.specs.Read.{number_of, of_json, of_items, converted, read}
use Rattle.spec_json.specs.Data.{Data}
use Rattle.spec_json.specs.Json.{whole_number, whole_of, whole_items}
use Rattle.json_edge.specs.FoundMembers.{Found}
use Rattle.json_edge.specs.Readings.{value_read, items_read, members_read, one_item, and_items, list_data}
use Rattle.std.specs.Str.{IsUtf8, is_utf8}
use Rattle.std.proofs.lemmas.Str.{IsUtf8-from_is_utf8, is_utf8-from_IsUtf8}
use Rattle.spec_json.specs.Json.{Reading, reading, not_json, reading_of_json, reading_of_whole}

abbrev pub pick : {A : Type 0} → A → Option A → A
pick d None = d
pick d (Some a) = a

found : {A B : Type 0} (a : A) (r s : List Token) (x : Option B) (b : B) → option_map {U = B × List Token} (λ y. (y, r)) x ≡ Some (b, s) → (r ≡ s) × (x ≡ Some b)
found a r s None b e = absurd (cc)
found a r s (Some y) b e = let same = ap (pick (y, r)) e in (ap (λ p. p.1) same, ap (λ p. Some p.0) same)

pub converted_some : {A B : Type 0} (f : A → Option B) (o : Option (A × List Token)) (b : B) (r : List Token) → converted f o ≡ Some (b, r) → (a : A) × (o ≡ Some (a, r)) × (f a ≡ Some b)
converted_some f None b r e = absurd (cc)
converted_some f (Some p) b r e = let both = found p.0 p.1 r (f p.0) b e in (p.0, ap (λ s. Some (p.0, s)) both.0, both.1)

refused : {B : Type 0} (r : List Token) (x : Option B) → option_map {U = B × List Token} (λ y. (y, r)) x ≡ None → x ≡ None
refused r None e = refl
refused r (Some y) e = absurd (cc)

pub twice : {A B : Type 0} (g : A → B) (r : List Token) (x : Option A) → option_map (λ b. (b, r)) (option_map g x) ≡ parse_map g (option_map (λ a. (a, r)) x)
twice g r None = refl
twice g r (Some a) = refl

with_item : (j : json.Json) (o : Option Data) → value_read j ≡ Some o → (q : Option (json.Items × List Token)) → converted items_read (parse_map (json.item j) q) ≡ parse_map (and_items (one_item o)) (converted items_read q)
with_item j o e None = refl
with_item j o e (Some p) = rw e (twice (and_items (one_item o)) p.1 (items_read p.0))

without_item : (j : json.Json) → value_read j ≡ None → (q : Option (json.Items × List Token)) → converted items_read (parse_map (json.item j) q) ≡ None
without_item j e None = refl
without_item j e (Some p) = rw e refl

with_member : (k : List ℕ) (j : json.Json) (o : Option Data) → value_read j ≡ Some o → (q : Option (json.Members × List Token)) → converted members_read (parse_map (json.member k j) q) ≡ parse_map (λ es. (k, o) ∷ es) (converted members_read q)
with_member k j o e None = refl
with_member k j o e (Some p) = rw e (twice (λ es. (k, o) ∷ es) p.1 (members_read p.0))

without_member : (k : List ℕ) (j : json.Json) → value_read j ≡ None → (q : Option (json.Members × List Token)) → converted members_read (parse_map (json.member k j) q) ≡ None
without_member k j e None = refl
without_member k j e (Some p) = rw e refl

module _ (p : Parse json.Json) where
  pub next_item : (n : ℕ) (ts r : List Token) (o : Option Data) → 0 < n → after_end_array ts ≡ None → converted value_read (p ts) ≡ Some (o, r)
      → converted items_read (items p n ts) ≡ parse_map (and_items (one_item o)) (converted items_read (items p (n - 1) r))
  next_item n ts r o some going e = let j = converted_some value_read (p ts) o r e in ap (converted items_read) (items_more p n ts r j.0 some going j.1) ∙ with_item j.0 o j.2 _

  no_item : (more : Parse json.Items) (o : Option (json.Json × List Token)) → converted value_read o ≡ None → converted items_read (option_and_then (λ q. parse_map (json.item q.0) (more q.1)) o) ≡ None
  no_item more None e = refl
  no_item more (Some q) e = without_item q.0 (refused q.1 (value_read q.0) e) (more q.1)

  pub item_refused : (n : ℕ) (ts : List Token) → after_end_array ts ≡ None → converted value_read (p ts) ≡ None → converted items_read (items p n ts) ≡ None
  unfolding items
  item_refused zero ts going e = refl
  item_refused (suc n) ts going e = ap (λ o. converted items_read (items_step p (items p n) ts o)) going ∙ no_item (items p n) (p ts) e

  pub items_over : (n : ℕ) (ts r : List Token) → length ts ≤ n → after_end_array ts ≡ Some r → converted items_read (items p n ts) ≡ Some (Some [], r)
  items_over n ts r enough e = ap (converted items_read) (items_end p n ts r enough e)

  pub next_member : (n : ℕ) (k : List ℕ) (ts s r : List Token) (o : Option Data) → 0 < n → read_key ts ≡ Some (Some k, s) → converted value_read (p s) ≡ Some (o, r)
      → converted members_read (members p n ts) ≡ parse_map (λ es. (k, o) ∷ es) (converted members_read (members p (n - 1) r))
  next_member n k ts s r o some key e = let j = converted_some value_read (p s) o r e in ap (converted members_read) (members_more p n k ts s r j.0 some key j.1) ∙ with_member k j.0 o j.2 _

  no_member : (k : List ℕ) (more : Parse json.Members) (o : Option (json.Json × List Token)) → converted value_read o ≡ None → converted members_read (option_and_then (λ q. parse_map (json.member k q.0) (more q.1)) o) ≡ None
  no_member k more None e = refl
  no_member k more (Some q) e = without_member k q.0 (refused q.1 (value_read q.0) e) (more q.1)

  pub member_refused : (n : ℕ) (k : List ℕ) (ts s : List Token) → read_key ts ≡ Some (Some k, s) → converted value_read (p s) ≡ None → converted members_read (members p n ts) ≡ None
  unfolding members
  member_refused zero k ts s key e = refl
  member_refused (suc n) k ts s key e = rw key (no_member k (members p n) (p s) e)

  pub key_refused : (n : ℕ) (ts : List Token) → read_key ts ≡ None → converted members_read (members p n ts) ≡ None
  key_refused n ts e = ap (converted members_read) (members_no_key p n ts e)

  pub members_over : (n : ℕ) (ts r : List Token) → length ts ≤ n → read_key ts ≡ Some (None, r) → converted members_read (members p n ts) ≡ Some ([], r)
  members_over n ts r enough e = ap (converted members_read) (members_end p n ts r enough e)

-- ---- lists that grow at their ends

after_again : (a b c : Option (List Data)) → and_items a (and_items b c) ≡ and_items (and_items a b) c
after_again None b c = refl
after_again (Some ds) None c = refl
after_again (Some ds) (Some es) None = refl
after_again (Some ds) (Some es) (Some fs) = ap Some (sym (append_assoc ds es fs))

pub one_more_item : (a b : Option (List Data)) (r : Option (Option (List Data) × List Token)) → parse_map (and_items a) (parse_map (and_items b) r) ≡ parse_map (and_items (and_items a b)) r
one_more_item a b None = refl
one_more_item a b (Some p) = ap (λ ds. Some (ds, p.1)) (after_again a b p.0)

after_none : (o : Option (List Data)) → and_items (Some []) o ≡ o
after_none None = refl
after_none (Some ds) = refl

pub no_item_yet : (r : Option (Option (List Data) × List Token)) → r ≡ parse_map (and_items (Some [])) r
no_item_yet None = refl
no_item_yet (Some p) = ap (λ o. Some (o, p.1)) (sym (after_none p.0))

pub after_all : (o : Option (List Data)) → and_items o (Some []) ≡ o
after_all None = refl
after_all (Some ds) = ap Some (append-nil ds)

pub one_more_member : (done : List Found) (e : Found) (r : Option (List Found × List Token)) → parse_map (λ es. done ++ es) (parse_map (λ es. e ∷ es) r) ≡ parse_map (λ es. (done ++ e ∷ []) ++ es) r
one_more_member done e None = refl
one_more_member done e (Some p) = ap (λ es. Some (es, p.1)) (sym (append_assoc done (e ∷ []) p.0))

pub no_member_yet : (r : Option (List Found × List Token)) → r ≡ parse_map (λ es. [] ++ es) r
no_member_yet None = refl
no_member_yet (Some p) = refl

-- ---- lists and objects as `serde_json` has them

first_item : (d : serde.Data) (o : Option serde.Items) → option_map whole_items (option_map (serde.item d) o) ≡ option_map (and_items (one_item (whole_of d))) (option_map whole_items o)
first_item d None = refl
first_item d (Some ds) = ap Some (by_value (whole_of d) (whole_items ds))
  where
    by_value : (o : Option Data) (r : Option (List Data)) → option_and_then (λ e. option_map (λ es. e ∷ es) r) o ≡ and_items (one_item o) r
    by_value None r = refl
    by_value (Some e) None = refl
    by_value (Some e) (Some es) = refl

pub items_whole : (js : json.Items) → option_map whole_items (of_items js) ≡ items_read js
items_whole json.no_items = refl
items_whole (json.item j js) = by_item (of_json j) (items_whole js)
  where
    by_item : (o : Option serde.Data) → option_map whole_items (of_items js) ≡ items_read js → option_map whole_items (option_and_then (λ d. option_map (serde.item d) (of_items js)) o) ≡ option_and_then (λ d. option_map (and_items (one_item d)) (items_read js)) (option_map whole_of o)
    by_item None rest = refl
    by_item (Some d) rest = first_item d (of_items js) ∙ ap (option_map (and_items (one_item (whole_of d)))) rest

list_of_whole : (js : json.Items) → value_read (json.array js) ≡ option_map (option_map list_data) (items_read js)
list_of_whole js = by_items (of_items js) ∙ ap (option_map (option_map list_data)) (items_whole js)
  where
    by_items : (o : Option serde.Items) → option_map whole_of (option_map serde.array o) ≡ option_map (option_map list_data) (option_map whole_items o)
    by_items None = refl
    by_items (Some ds) = refl

pub converted_array : (o : Option (json.Items × List Token)) → converted value_read (parse_map json.array o) ≡ parse_map (option_map list_data) (converted items_read o)
converted_array None = refl
converted_array (Some p) = ap (option_map (λ y. (y, p.1))) (list_of_whole p.0) ∙ twice (option_map list_data) p.1 (items_read p.0)

-- a number, once it was read
pub number_read : (s : List ℕ) (o : Option (Option Data)) → option_map whole_number (number_of s) ≡ o → value_read (json.number s) ≡ o
number_read s o e = by_number (number_of s) ∙ e
  where
    by_number : (o : Option serde.Num) → option_map whole_of (option_map serde.number o) ≡ option_map whole_number o
    by_number None = refl
    by_number (Some n) = refl

-- ---- from bytes

abbrev pub reading_of : Option (Option Data) → Reading
reading_of None = not_json
reading_of (Some o) = reading_of_whole o

pub reading_text : (bytes : List ℕ) (o : Option (Option Data)) → IsUtf8 bytes → option_map whole_of (read bytes) ≡ o → reading bytes ≡ reading_of o
reading_text bytes o u h = rw (is_utf8-from_IsUtf8 bytes u) (by_read (read bytes)) ∙ ap reading_of h
  where
    by_read : (r : Option serde.Data) → reading_of_json r ≡ reading_of (option_map whole_of r)
    by_read None = refl
    by_read (Some d) = refl

pub reading_no_text : (bytes : List ℕ) → (IsUtf8 bytes → ⊥) → reading bytes ≡ not_json
reading_no_text bytes h = by_test (is_utf8 bytes) refl
  where
    by_test : (b : Bool) → is_utf8 bytes ≡ b → reading bytes ≡ not_json
    by_test true e = absurd (h (IsUtf8-from_is_utf8 bytes e))
    by_test false e = rw e refl
