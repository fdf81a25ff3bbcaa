-- A log that follows a history, with one entry more.
use Rattle.std.proofs.Common.{◌≡◌, ◌≤◌, ◌<◌, ◌-◌, ◌==◌, ◌&&◌, ◌||◌, ℕ, suc, List, [], ◌∷◌, ◌++◌, Bool, true, false, cond, Option, None, Some, append-nil, drop, filter, is_some, length, map, option_map, arith, refl, sym, ap, ◌∙◌, ⊎_elim, length-append}
use Rattle.std.specs.Prelude.{nat_le}
use Rattle.std.proofs.lemmas.Bool.{and_cases, and_left, and_right, cases_lt, leb-false, lt-leb}
use Rattle.std.proofs.lemmas.List.{drop-append-le, map_push}
use Rattle.std.proofs.lemmas.List.Elements.{filter-append, filter_agree}
use Rattle.std.proofs.lemmas.List.Sums.{sum_by-append}
use Rattle.object_log.proofs.HistoryLemmas.{shows_ids, shows_object}
use Rattle.object_log.specs.Histories.{Follows, told_by, told_in}
use Rattle.object_log.specs.Puts.{bytes_put, ids_put, is_known, may_come, latest}
use Rattle.object_log.specs.declared.put.Put.{Put}
use Rattle.spec_history.specs.History.{changes_of, ids_at, is_kind, live_object, next_number}
use Rattle.spec_history.specs.Pages.{window}
use Rattle.spec_sizes.specs.Sizes.{of_kind, window_bytes}
use Rattle.spec_history.specs.declared.entry.Change.{Change}
use Rattle.spec_history.specs.declared.entry.Entry.{Entry}
use Rattle.spec_history.specs.declared.entry.Kind.{Kind}
use Rattle.spec_json.specs.declared.tree.Tree.{Tree}

of_kind_more : (kind : Kind) (cs : List Change) (c : Change) (b : Bool) → is_kind kind c.kind ≡ b → of_kind kind (cs ++ c ∷ []) ≡ of_kind kind cs ++ cond b (c ∷ []) []
of_kind_more kind cs c b is = filter-append (λ (d : Change). is_kind kind d.kind) cs (c ∷ []) ∙ ap (λ x. of_kind kind cs ++ cond x (c ∷ []) []) is

changes_more : (es : List Entry) (e : Entry) → changes_of (es ++ e ∷ []) ≡ changes_of es ++ e.change ∷ []
changes_more es e = map_push (λ (x : Entry). x.change) es e

module _ {T : Type 0} (read : T → Tree) (kind : Kind) where
  -- the log is told of a change of its kind
  pub follows_more : (ps : List (Put T)) (p : Put T) (es : List Entry) (e : Entry) → Follows read ps kind (changes_of es) → is_kind kind e.change.kind ≡ true → told_by read p ≡ told_in e.change
      → Follows read (ps ++ p ∷ []) kind (changes_of (es ++ e ∷ []))
  follows_more ps p es e follows of same =
      map_push (told_by read) ps p ∙ ap (λ l. l ++ told_by read p ∷ []) follows ∙ ap (λ t. map told_in (of_kind kind (changes_of es)) ++ t ∷ []) same
      ∙ sym (map_push told_in (of_kind kind (changes_of es)) e.change) ∙ ap (map told_in) (sym (ap (of_kind kind) (changes_more es e) ∙ of_kind_more kind (changes_of es) e.change true of))

  -- a change of the other kind is none of its own
  pub follows_other : (ps : List (Put T)) (es : List Entry) (e : Entry) → Follows read ps kind (changes_of es) → is_kind kind e.change.kind ≡ false → Follows read ps kind (changes_of (es ++ e ∷ []))
  follows_other ps es e follows of =
      follows ∙ ap (map told_in) (sym (ap (of_kind kind) (changes_more es e) ∙ of_kind_more kind (changes_of es) e.change false of ∙ append-nil (of_kind kind (changes_of es))))

  has_object : (o : Option T) → is_some (option_map read o) ≡ is_some o
  has_object None = refl
  has_object (Some x) = refl

  -- a change may come next in the log where it may in the history
  pub may_come_told : (ps : List (Put T)) (p : Put T) (cs : List Change) → Follows read ps kind cs → may_come ps p ≡ ((p.id == next_number cs kind) || is_some (live_object cs kind p.id))
  may_come_told ps p cs follows =
      ap (λ l. (p.id == suc (length l)) || is_some (latest ps p.id)) (shows_ids read ps kind cs follows)
      ∙ ap (λ b. (p.id == next_number cs kind) || b) (sym (has_object (latest ps p.id)) ∙ ap is_some (shows_object read ps kind cs follows p.id))

  pub next_told : (ps : List (Put T)) (p : Put T) (cs : List Change) → Follows read ps kind cs → ((p.id == next_number cs kind) || is_some (live_object cs kind p.id)) ≡ true → may_come ps p ≡ true
  next_told ps p cs follows next = may_come_told ps p cs follows ∙ next

  pub live_shown : (ps : List (Put T)) (cs : List Change) → Follows read ps kind cs → filter (λ id. is_some (latest ps id)) (ids_put ps) ≡ filter (λ id. is_some (live_object cs kind id)) (ids_at cs kind)
  live_shown ps cs follows =
      filter_agree (λ id. is_some (latest ps id)) (λ id. is_some (live_object cs kind id)) (λ id. sym (has_object (latest ps id)) ∙ ap is_some (shows_object read ps kind cs follows id)) (ids_put ps)
      ∙ ap (λ l. filter (λ id. is_some (live_object cs kind id)) l) (shows_ids read ps kind cs follows)

module _ {T : Type 0} where
  -- a state that isn't answered from any more never is again
  pub stays_unknown : (ps : List (Put T)) (p : Put T) (k : ℕ) → k ≤ length ps → is_known ps k ≡ false → is_known (ps ++ p ∷ []) k ≡ false
  stays_unknown ps p k reached unknown =
      let n = length ps in
      ⊎_elim
      (λ (far : (nat_le k n && nat_le (n - k) window) ≡ false). ⊎_elim
      (λ (never : nat_le k n ≡ false). absurd (let h = leb-false k n never in omega (arith, h, reached)))
      (λ (old : nat_le (n - k) window ≡ false).
      let h = leb-false (n - k) window old in
      and_left _ _ (and_right (nat_le k (length (ps ++ p ∷ []))) _ (lt-leb (length (ps ++ p ∷ []) - k) window (omega (arith, h, reached, length-append ps (p ∷ []))))))
      (and_cases (nat_le k n) (nat_le (n - k) window) far))
      (λ (large : nat_le (bytes_put (drop k ps)) window_bytes ≡ false).
      let h = leb-false (bytes_put (drop k ps)) window_bytes large in
      let more = ap bytes_put (drop-append-le k ps (p ∷ []) reached) ∙ sum_by-append (λ (q : Put T). q.size) (drop k ps) (p ∷ []) in
      and_right _ _ (lt-leb (bytes_put (drop k (ps ++ p ∷ []))) window_bytes (omega (arith, h, more))))
      (and_cases (nat_le k n && nat_le (n - k) window) (nat_le (bytes_put (drop k ps)) window_bytes) unknown)

  -- the states that are told from are those that are answered from, after one change more
  pub known_on : (ps : List (Put T)) (p : Put T) (first first' k : ℕ) → first ≤ length ps → first ≤ first'
      → (nat_le first k && nat_le k (length ps)) ≡ is_known ps k → (first ≤ k → (nat_le first' k && nat_le k (length (ps ++ p ∷ []))) ≡ is_known (ps ++ p ∷ []) k)
      → (nat_le first' k && nat_le k (length (ps ++ p ∷ []))) ≡ is_known (ps ++ p ∷ []) k
  known_on ps p first first' k within rises before after = ⊎_elim
      (λ (below : k < first).
      and_left (nat_le first' k) _ (lt-leb first' k (omega (arith, below, rises)))
      ∙ sym (stays_unknown ps p k (omega (arith, below, within)) (sym before ∙ and_left (nat_le first k) _ (lt-leb first k below))))
      (λ (low : first ≤ k). after low)
      (cases_lt k first)
