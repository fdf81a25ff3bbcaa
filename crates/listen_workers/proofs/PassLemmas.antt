-- The passes of one number, of a list of accounts.
use Rattle.std.proofs.Common.{◌≡◌, ℕ, ◌++◌, List, [], ◌∷◌, Some, length, map, max, slice_get, refl, sym, ap, ◌∙◌, arith}
use Rattle.std.proofs.lemmas.List.{length-map}
use Rattle.std.proofs.lemmas.Option.{same_Some, slice_get-map, slice_get_within}
use Rattle.std.specs.Prelude.{option_map}
use Rattle.atomic_table.specs.Seated.{TableId}
use Rattle.account_desk.specs.SharedDesk.{greatest_turn}
use Rattle.account_lock.specs.Passes.{PassState, opened_pass}
use Rattle.spec_history.specs.Base.{Base}
use Rattle.spec_history.specs.declared.entry.Entry.{Entry}
use Rattle.listen_workers.proofs.HandLemmas.{some_at}
use Rattle.listen_workers.specs.Passes.{ShareAccounts, fresh_passes}

pub passes_count : (locks : List TableId) (accounts : List (Base × List Entry)) (n : ℕ) → length locks ≡ length accounts → length (fresh_passes locks accounts n) ≡ length locks
passes_count [] accounts n e = refl
passes_count (l ∷ ls) [] n e = absurd (omega (arith, e))
passes_count (l ∷ ls) (a ∷ accounts) n e = (let rest = passes_count ls accounts n (omega (arith, e)) in omega (arith, rest))

pub passes_locks : (locks : List TableId) (accounts : List (Base × List Entry)) (n : ℕ) → length locks ≡ length accounts → map (λ (p : PassState). p.lock) (fresh_passes locks accounts n) ≡ locks
passes_locks [] accounts n e = refl
passes_locks (l ∷ ls) [] n e = absurd (omega (arith, e))
passes_locks (l ∷ ls) (a ∷ accounts) n e = ap (λ (ks : List TableId). l ∷ ks) (passes_locks ls accounts n (omega (arith, e)))

-- none of them has made a call
no_turns : (locks : List TableId) (accounts : List (Base × List Entry)) (n : ℕ) → greatest_turn (fresh_passes locks accounts n) ≡ 0
no_turns [] accounts n = refl
no_turns (l ∷ ls) [] n = refl
no_turns (l ∷ ls) (a ∷ accounts) n = (let rest = no_turns ls accounts n in ap (max 0) rest)

-- the pass of one account more
pub one_more : (locks : List TableId) (accounts : List (Base × List Entry)) (lock : TableId) (a : Base × List Entry) (n : ℕ) → length locks ≡ length accounts
    → fresh_passes (locks ++ lock ∷ []) (accounts ++ a ∷ []) n ≡ fresh_passes locks accounts n ++ opened_pass lock a.0 a.1 n ∷ []
one_more [] [] lock a n e = refl
one_more [] (b ∷ accounts) lock a n e = absurd (omega (arith, e))
one_more (l ∷ ls) [] lock a n e = absurd (omega (arith, e))
one_more (l ∷ ls) (b ∷ accounts) lock a n e = ap (λ (ps : List PassState). opened_pass l b.0 b.1 n ∷ ps) (one_more ls accounts lock a n (omega (arith, e)))

-- the desks whose passes are these hands
module _ {H : Type 0} (passes : H → List PassState) (hands : List H) (locks : List TableId) (accounts : List (Base × List Entry)) where
  abbrev desk_with : H → List PassState × ℕ
  desk_with hand = (passes hand, greatest_turn (passes hand))

  pub share : (desks : List (List PassState × ℕ)) → desks ≡ map desk_with hands → length locks ≡ length accounts
      → ((w : ℕ) (hand : H) → slice_get hands w ≡ Some hand → passes hand ≡ fresh_passes locks accounts w) → ShareAccounts accounts desks
  share desks is each fresh = (locks, each, of_desk)
    where
      of_desk : (w : ℕ) (desk : List PassState × ℕ) → slice_get desks w ≡ Some desk → desk ≡ (fresh_passes locks accounts w, 0)
      of_desk w desk at =
          let here : slice_get (map desk_with hands) w ≡ Some desk = ap (λ (ds : List (List PassState × ℕ)). slice_get ds w) (sym is) ∙ at in
          let within = slice_get_within (map desk_with hands) w desk here in
          let count = length-map hands desk_with in
          let hand = some_at hands w (omega (arith, within, count)) in
          let one : desk_with hand.0 ≡ desk = same_Some (desk_with hand.0) desk (sym (slice_get-map desk_with hands w ∙ ap (option_map desk_with) hand.1) ∙ here) in
          let passes_are = fresh w hand.0 hand.1 in
          sym one ∙ (λ i. (passes_are i, (ap greatest_turn passes_are ∙ no_turns locks accounts w) i))
