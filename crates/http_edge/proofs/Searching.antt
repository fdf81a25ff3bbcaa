-- A search goes on, and begins.
use Rattle.std.proofs.Common.{◌≡◌, ℕ, ◌+◌, ◌<◌, ◌≤◌, List, [], ◌∷◌, ◌++◌, length, get_or, take, drop, cond, Bool, true, false, Option, Some, None, option_map, refl, sym, ap, ◌∙◌, subst, append_assoc, arith, add-one, drop-cons, length-append, zero-add}
use Rattle.std.specs.Prelude.{◌==◌, ◌&&◌}
use Rattle.std.proofs.lemmas.List.{take_more, take-append-drop, take_all, length-take-le}
use Rattle.std.specs.Option.{option_or}
use Rattle.spec_http.specs.Heads.{head_length, line_end_length, begins_with_feed, later}
use Rattle.http_edge.specs.Searches.{is_last, next_state, search_from, IsSearched}
use Rattle.http_edge.specs.declared.search.SearchState.{SearchState}
use Rattle.http_edge.specs.declared.search.SearchState.TheVariants.{Within, AfterFeed, AfterReturn}

pub search-cons : (s : SearchState) (b : ℕ) (bytes : List ℕ) → search_from s (b ∷ bytes) ≡ cond (is_last s b) (Some 1) (later (search_from (next_state s b) bytes))
unfolding search_from
search-cons s b bytes = refl

shifted : (n m : ℕ) (o : Option ℕ) → m ≡ n + 1 → option_map (λ k. n + k) (later o) ≡ option_map (λ k. m + k) o
shifted n m None e = refl
shifted n m (Some k) e = ap Some (omega arith)

pub searched_more : (p : List ℕ) (s : SearchState) (b : ℕ) → IsSearched p s → is_last s b ≡ false → IsSearched (p ++ b ∷ []) (next_state s b)
searched_more p s b h other more =
    ap head_length (append_assoc p (b ∷ []) more) ∙ h (b ∷ more)
    ∙ ap (option_map (λ n. length p + n)) (search-cons s b more ∙ ap (λ t. cond t (Some 1) (later (search_from (next_state s b) more))) other)
    ∙ shifted (length p) (length (p ++ b ∷ [])) (search_from (next_state s b) more) (length-append p (b ∷ []))

pub found_here : (p : List ℕ) (s : SearchState) (b : ℕ) (more : List ℕ) → IsSearched p s → is_last s b ≡ true → head_length (p ++ b ∷ more) ≡ Some (length p + 1)
found_here p s b more h here =
    h (b ∷ more) ∙ ap (option_map (λ n. length p + n)) (search-cons s b more ∙ ap (λ t. cond t (Some 1) (later (search_from (next_state s b) more))) here)

-- the same at an index
pub go_more : (bytes : List ℕ) (i : ℕ) (s : SearchState) → i < length bytes → IsSearched (take i bytes) s → is_last s (get_or bytes i 0) ≡ false → IsSearched (take (i + 1) bytes) (next_state s (get_or bytes i 0))
go_more bytes i s h k other = subst (λ p. IsSearched p (next_state s (get_or bytes i 0))) (sym (take_more bytes i 0 h)) (searched_more (take i bytes) s (get_or bytes i 0) k other)

pub go_found : (bytes : List ℕ) (i : ℕ) (s : SearchState) → i < length bytes → IsSearched (take i bytes) s → is_last s (get_or bytes i 0) ≡ true → head_length bytes ≡ Some (i + 1)
go_found bytes i s h k here =
    let parts : take i bytes ++ get_or bytes i 0 ∷ drop (i + 1) bytes ≡ bytes = ap (λ l. take i bytes ++ l) (rw (add-one) (sym (drop-cons bytes i 0 h))) ∙ take-append-drop i bytes in
    let len : length (take i bytes) ≡ i = length-take-le i bytes (omega arith) in
    ap head_length (sym parts) ∙ found_here (take i bytes) s (get_or bytes i 0) (drop (i + 1) bytes) k here ∙ ap (λ n. Some (n + 1)) len

pub go_all : (bytes : List ℕ) (i : ℕ) (s : SearchState) → length bytes ≤ i → IsSearched (take i bytes) s → IsSearched bytes s
go_all bytes i s h k = subst (λ p. IsSearched p s) (take_all i bytes h) k

-- ---- a search begins

head-cons : (b : ℕ) (bytes : List ℕ) → head_length (b ∷ bytes) ≡ cond (b == 10) (later (option_or (line_end_length bytes) (head_length bytes))) (later (head_length bytes))
unfolding head_length
head-cons b bytes = refl

-- what the search looks for, state by state
abbrev pub ahead : SearchState → List ℕ → Option ℕ
ahead Within bytes = head_length bytes
ahead AfterFeed bytes = option_or (line_end_length bytes) (head_length bytes)
ahead AfterReturn bytes = cond (begins_with_feed bytes) (Some 1) (head_length bytes)

ahead-nil : (s : SearchState) → search_from s [] ≡ ahead s []
unfolding search_from head_length
ahead-nil Within = refl
ahead-nil AfterFeed = refl
ahead-nil AfterReturn = refl

added : (o : Option ℕ) → o ≡ option_map (λ n. 0 + n) o
added None = refl
added (Some n) = ap Some (sym (zero-add n))

later_cond : (t : Bool) (x y : Option ℕ) → later (cond t x y) ≡ cond t (later x) (later y)
later_cond true x y = refl
later_cond false x y = refl

within_next : (f : Bool) (bytes : List ℕ) → search_from AfterFeed bytes ≡ option_or (line_end_length bytes) (head_length bytes) → search_from Within bytes ≡ head_length bytes
    → search_from (cond f AfterFeed Within) bytes ≡ cond f (option_or (line_end_length bytes) (head_length bytes)) (head_length bytes)
within_next true bytes a w = a
within_next false bytes a w = w

-- behind a line feed
return_case : (g : Bool) (x : Option ℕ) → later (cond g (Some 1) x) ≡ option_or (cond g (Some 2) None) (later x)
return_case true x = refl
return_case false x = refl

feed_next : (f r : Bool) (bytes : List ℕ) → search_from AfterFeed bytes ≡ option_or (line_end_length bytes) (head_length bytes) → search_from AfterReturn bytes ≡ cond (begins_with_feed bytes) (Some 1) (head_length bytes)
    → search_from Within bytes ≡ head_length bytes
    → cond f (Some 1) (later (search_from (cond f AfterFeed (cond r AfterReturn Within)) bytes))
    ≡ option_or (cond f (Some 1) (cond (r && begins_with_feed bytes) (Some 2) None)) (cond f (later (option_or (line_end_length bytes) (head_length bytes))) (later (head_length bytes)))
feed_next true r bytes a e w = refl
feed_next false true bytes a e w = ap later e ∙ return_case (begins_with_feed bytes) (head_length bytes)
feed_next false false bytes a e w = ap later w

-- behind a CR
return_next : (f : Bool) (bytes : List ℕ) → search_from Within bytes ≡ head_length bytes
    → cond f (Some 1) (later (search_from (cond f AfterFeed Within) bytes)) ≡ cond f (Some 1) (cond f (later (option_or (line_end_length bytes) (head_length bytes))) (later (head_length bytes)))
return_next true bytes w = refl
return_next false bytes w = ap later w

pub search_ahead : (s : SearchState) (bytes : List ℕ) → search_from s bytes ≡ ahead s bytes
search_ahead s [] = ahead-nil s
search_ahead Within (b ∷ bytes) =
    search-cons Within b bytes ∙ ap later (within_next (b == 10) bytes (search_ahead AfterFeed bytes) (search_ahead Within bytes)) ∙ later_cond (b == 10) _ _ ∙ sym (head-cons b bytes)
search_ahead AfterFeed (b ∷ bytes) =
    search-cons AfterFeed b bytes ∙ feed_next (b == 10) (b == 13) bytes (search_ahead AfterFeed bytes) (search_ahead AfterReturn bytes) (search_ahead Within bytes)
    ∙ ap (option_or (line_end_length (b ∷ bytes))) (sym (head-cons b bytes))
search_ahead AfterReturn (b ∷ bytes) =
    search-cons AfterReturn b bytes ∙ return_next (b == 10) bytes (search_ahead Within bytes) ∙ ap (cond (b == 10) (Some 1)) (sym (head-cons b bytes))

-- each head is found by a search from the start
pub searched_none : IsSearched [] Within
searched_none more = sym (search_ahead Within more) ∙ added (search_from Within more)
