-- The members of an object, sorted and with the last of each key, are those that `serde_json` keeps.
use Rattle.std.proofs.Common.{◌≡◌, ℕ, List, [], ◌∷◌, ◌++◌, Option, Some, None, option_map, option_and_then, Bool, true, false, Ordering, Less, Equal, Greater, refl, sym, ap, ◌∙◌, cond, subst, reverse, map}
use Rattle.std.proofs.lemmas.List.{reverse-append, map-append}
use Rattle.spec_json.proofs.KeyOrder.{less_of}
use Rattle.std.proofs.lemmas.Cmp.{nat_list_cmp_total}
use Rattle.std.proofs.lemmas.Map.Text.{is_eq-slice_cmp}
use Rattle.std.proofs.lemmas.Slice.Eq.{bytes_eq-Decides}
use Rattle.std.specs.Cmp.Lexicographic.{slice_cmp}
use Rattle.std.specs.Ordering.{nat_cmp, is_lt, is_eq, match_ordering, ordering_reverse}
use Rattle.json.specs.Token.{Token}
use Rattle.json.specs.Json as json
use Rattle.json.specs.Json.{parse_map}
use Rattle.serde_json.specs.Data as serde
use Rattle.serde_json.specs.Data.{put}
use Rattle.serde_json.specs.Read.{of_json, of_members, converted}
use Rattle.spec_json.specs.Data.{Data, Pair, object, members_of}
use Rattle.spec_json.specs.Json.{whole_of, whole_members}
use Rattle.json_edge.specs.FoundMembers.{Found, put_found, put_each, whole_pairs, object_found, first_of_each, is_next}
use Rattle.spec_json.specs.InOrder.{put_in, in_order}
use Rattle.json_edge.specs.FoundMembers.{key_below}
use Rattle.json_edge.specs.Readings.{value_read, members_read}
use Rattle.json_edge.proofs.Reading.{twice}

-- ---- as `serde_json` puts them in

abbrev seen : serde.Members → List Found
seen serde.no_members = []
seen (serde.member k d ms) = (k, whole_of d) ∷ seen ms

seen_cases : (o : Ordering) (a b c : serde.Members) → seen (match_ordering o a b c) ≡ match_ordering o (seen a) (seen b) (seen c)
seen_cases Less a b c = refl
seen_cases Equal a b c = refl
seen_cases Greater a b c = refl

-- of a key that is there, `put` keeps its own
same_key : (o : Ordering) (k l : List ℕ) (v : Option Data) (a c rest : List Found) → slice_cmp nat_cmp k l ≡ o → match_ordering o a ((l, v) ∷ rest) c ≡ match_ordering o a ((k, v) ∷ rest) c
same_key Less k l v a c rest e = refl
same_key Equal k l v a c rest e = ap (λ m. (m, v) ∷ rest) (sym ((bytes_eq-Decides k l).0 (sym (is_eq-slice_cmp k l) ∙ ap is_eq e)))
same_key Greater k l v a c rest e = refl

seen_put : (k : List ℕ) (d : serde.Data) (ms : serde.Members) → seen (put k d ms) ≡ put_found (k, whole_of d) (seen ms)
seen_put k d serde.no_members = refl
seen_put k d (serde.member l e ms) =
    seen_cases (slice_cmp nat_cmp k l) (serde.member k d (serde.member l e ms)) (serde.member l d ms) (serde.member l e (put k d ms))
    ∙ same_key (slice_cmp nat_cmp k l) k l (whole_of d) _ _ (seen ms) refl
    ∙ ap (λ r. match_ordering (slice_cmp nat_cmp k l) ((k, whole_of d) ∷ (l, whole_of e) ∷ seen ms) ((k, whole_of d) ∷ seen ms) ((l, whole_of e) ∷ r)) (seen_put k d ms)

whole_seen : (ms : serde.Members) → whole_members ms ≡ whole_pairs (seen ms)
whole_seen serde.no_members = refl
whole_seen (serde.member k d ms) = ap (λ r. option_and_then (λ e. option_map (λ ps. (k, e) ∷ ps) r) (whole_of d)) (whole_seen ms)

pub pairs_whole : (ms : json.Members) (old : serde.Members) → option_map whole_members (of_members ms old) ≡ option_map (λ es. whole_pairs (put_each (seen old) es)) (members_read ms)
pairs_whole json.no_members old = ap Some (whole_seen old)
pairs_whole (json.member k j ms) old = by_value (of_json j) (λ d. pairs_whole ms (put k d old))
  where
    further : (d : serde.Data) (o : Option (List Found)) → option_map (λ es. whole_pairs (put_each (seen (put k d old)) es)) o ≡ option_map (λ es. whole_pairs (put_each (seen old) es)) (option_map (λ es. (k, whole_of d) ∷ es) o)
    further d None = refl
    further d (Some es) = ap (λ fs. Some (whole_pairs (put_each fs es))) (seen_put k d old)

    by_value : (o : Option serde.Data) → ((d : serde.Data) → option_map whole_members (of_members ms (put k d old)) ≡ option_map (λ es. whole_pairs (put_each (seen (put k d old)) es)) (members_read ms))
        → option_map whole_members (option_and_then (λ d. of_members ms (put k d old)) o) ≡ option_map (λ es. whole_pairs (put_each (seen old) es)) (option_and_then (λ v. option_map (λ es. (k, v) ∷ es) (members_read ms)) (option_map whole_of o))
    by_value None rest = refl
    by_value (Some d) rest = rest d ∙ further d (members_read ms)

abbrev object_data : List Pair → Data
object_data ps = object (members_of ps)

object_of_whole : (ms : json.Members) → value_read (json.object ms) ≡ option_map object_found (members_read ms)
object_of_whole ms = by_members (of_members ms serde.no_members) ∙ ap (option_map (option_map object_data)) (pairs_whole ms serde.no_members) ∙ once_more (members_read ms)
  where
    by_members : (o : Option serde.Members) → option_map whole_of (option_map serde.object o) ≡ option_map (option_map object_data) (option_map whole_members o)
    by_members None = refl
    by_members (Some ds) = refl

    once_more : (o : Option (List Found)) → option_map (option_map object_data) (option_map (λ es. whole_pairs (put_each [] es)) o) ≡ option_map object_found o
    once_more None = refl
    once_more (Some es) = refl

pub converted_object : (o : Option (json.Members × List Token)) → converted value_read (parse_map json.object o) ≡ parse_map object_found (converted members_read o)
converted_object None = refl
converted_object (Some p) = ap (option_map (λ y. (y, p.1))) (object_of_whole p.0) ∙ twice object_found p.1 (members_read p.0)

-- ---- as they are sorted

-- those of a list put in, the last one first
abbrev pub puts : List Found → List Found → List Found
puts fs [] = fs
puts fs (e ∷ es) = put_found e (puts fs es)

puts_last : (fs es : List Found) (e : Found) → puts fs (es ++ e ∷ []) ≡ puts (put_found e fs) es
puts_last fs [] e = refl
puts_last fs (f ∷ es) e = ap (put_found f) (puts_last fs es e)

pub puts_reversed : (es fs : List Found) → puts fs (reverse es) ≡ put_each fs es
puts_reversed [] fs = refl
puts_reversed (e ∷ es) fs = ap (puts fs) (reverse-append (e ∷ []) es) ∙ puts_last fs (reverse es) e ∙ puts_reversed es (put_found e fs)

abbrev other_way : (k l : List ℕ) (o : Ordering) → slice_cmp nat_cmp k l ≡ o → slice_cmp nat_cmp l k ≡ ordering_reverse o
other_way k l o e = nat_list_cmp_total.antisymm l k ∙ ap ordering_reverse e

-- a key above the last one that was kept
abbrev Follows : Option (List ℕ) → List ℕ → Type 0
Follows last k = is_next last k ≡ true

below_follows : (last : Option (List ℕ)) (k l : List ℕ) → Follows last k → slice_cmp nat_cmp k l ≡ Less → Follows last l
below_follows None k l h e = refl
below_follows (Some j) k l h e = ap is_lt (nat_list_cmp_total.trans j k l (less_of (slice_cmp nat_cmp j k) h) e)

same_follows : (last : Option (List ℕ)) (k l : List ℕ) → Follows last k → slice_cmp nat_cmp k l ≡ Equal → Follows last l
same_follows last k l h e = subst (Follows last) ((bytes_eq-Decides k l).0 (sym (is_eq-slice_cmp k l) ∙ ap is_eq e)) h

-- those that are kept of a list with one more are those kept, with that one put in
module _ (e : Found) where
  pub firsts_put : (last : Option (List ℕ)) (fs : List Found) → Follows last e.0 → first_of_each last (put_in key_below e fs) ≡ put_found e (first_of_each last fs)
  firsts_put last [] h = rw h refl
  firsts_put last (f ∷ fs) h = by_key (slice_cmp nat_cmp e.0 f.0) refl (λ l g. firsts_put l fs g)
    where
      by_test : (b : Bool) → is_next last f.0 ≡ b → slice_cmp nat_cmp e.0 f.0 ≡ Greater → ((l : Option (List ℕ)) → Follows l e.0 → first_of_each l (put_in key_below e fs) ≡ put_found e (first_of_each l fs))
          → cond b (f ∷ first_of_each (Some f.0) (put_in key_below e fs)) (first_of_each last (put_in key_below e fs)) ≡ put_found e (cond b (f ∷ first_of_each (Some f.0) fs) (first_of_each last fs))
      by_test true k g rest = ap (λ l. f ∷ l) (rest (Some f.0) (ap is_lt (other_way e.0 f.0 Greater g))) ∙ sym (ap (λ o. match_ordering o (e ∷ f ∷ first_of_each (Some f.0) fs) (e ∷ first_of_each (Some f.0) fs) (f ∷ put_found e (first_of_each (Some f.0) fs))) g)
      by_test false k g rest = rest last h

      by_key : (o : Ordering) → slice_cmp nat_cmp e.0 f.0 ≡ o → ((l : Option (List ℕ)) → Follows l e.0 → first_of_each l (put_in key_below e fs) ≡ put_found e (first_of_each l fs))
          → first_of_each last (put_in key_below e (f ∷ fs)) ≡ put_found e (first_of_each last (f ∷ fs))
      by_key Less g rest =
          let back : slice_cmp nat_cmp f.0 e.0 ≡ Greater = other_way e.0 f.0 Less g in
          let later : is_next last f.0 ≡ true = below_follows last e.0 f.0 h g in
          rw (back, h, g, later, g) refl
      by_key Equal g rest =
          let back : slice_cmp nat_cmp f.0 e.0 ≡ Equal = other_way e.0 f.0 Equal g in
          let later : is_next last f.0 ≡ true = same_follows last e.0 f.0 h g in
          let same : e.0 ≡ f.0 = (bytes_eq-Decides e.0 f.0).0 (sym (is_eq-slice_cmp e.0 f.0) ∙ ap is_eq g) in
          rw (back, h, g, later, g) (ap (λ k. e ∷ first_of_each (Some k) fs) same)
      by_key Greater g rest =
          let back : slice_cmp nat_cmp f.0 e.0 ≡ Less = other_way e.0 f.0 Greater g in
          ap (λ o. first_of_each last (cond (is_lt o) (f ∷ put_in key_below e fs) (e ∷ f ∷ fs))) back ∙ by_test (is_next last f.0) refl g rest

pub firsts_in_order : (es : List Found) → first_of_each None (in_order key_below es) ≡ puts [] es
firsts_in_order [] = refl
firsts_in_order (e ∷ es) = firsts_put e None (in_order key_below es) refl ∙ ap (put_found e) (firsts_in_order es)

-- what is kept of those sorted, once they were turned round
pub firsts_sorted : {X : Type 0} (f : X → Found) (xs ys zs : List X) → ys ≡ reverse xs → map f zs ≡ in_order key_below (map f ys) → first_of_each None (map f zs) ≡ put_each [] (map f xs)
firsts_sorted {X = X} f xs ys zs turned sorted =
    let turned_entries : map f ys ≡ reverse (map f xs) = ap (map f) turned ∙ map_reversed xs in
    ap (first_of_each None) (sorted ∙ ap (in_order key_below) turned_entries) ∙ firsts_in_order (reverse (map f xs)) ∙ puts_reversed (map f xs) []
  where
    map_reversed : (xs : List X) → map f (reverse xs) ≡ reverse (map f xs)
    map_reversed [] = refl
    map_reversed (x ∷ xs) = ap (map f) (reverse-append (x ∷ []) xs) ∙ map-append f (reverse xs) (x ∷ []) ∙ ap (λ l. l ++ f x ∷ []) (map_reversed xs) ∙ sym (reverse-append (f x ∷ []) (map f xs))
