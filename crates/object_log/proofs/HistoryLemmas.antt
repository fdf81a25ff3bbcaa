-- What a log that follows a history shows.
use Rattle.std.proofs.Common.{◌≡◌, ℕ, ◌+◌, ◌==◌, ◌&&◌, zero, suc, Bool, true, false, cond, List, [], ◌∷◌, Option, None, Some, filter, fold, is_some, length, map, option_map, sum_by, take, drop, refl, sym, ap, ◌∙◌}
use Rattle.std.specs.Prelude.{nat_le}
use Rattle.std.proofs.lemmas.List.{length-map}
use Rattle.std.proofs.lemmas.List.Sums.{length-filter, sum_by-cons}
use Rattle.std.proofs.Math.Seq.{take-nil}
use Rattle.spec_history.specs.History.{count_of_kind, ids_at, ids_from, is_kind, live_object, object_from, with_id}
use Rattle.spec_history.specs.Pages.{Mention, is_retained, mention_of, mentions}
use Rattle.spec_history.specs.declared.entry.Change.{Change}
use Rattle.spec_history.specs.declared.entry.Kind.{Kind}
use Rattle.spec_json.proofs.Booleans.{eqb_sym}
use Rattle.spec_json.specs.declared.tree.Tree.{Tree}
use Rattle.object_log.specs.Histories.{Follows, ChangeTold, told_by, told_in}
use Rattle.spec_sizes.specs.Sizes.{is_answered_from, of_kind, size_of, size_of_object, window_bytes}
use Rattle.object_log.specs.Puts.{bytes_put, ids_put, is_known, latest, latest_from, mention_in, latest_at, said}
use Rattle.object_log.specs.declared.put.Put.{Put}

-- the object of an id after some of these, or what it was before them
abbrev last_told : Option Tree → List ChangeTold → ℕ → Option Tree
last_told before [] id = before
last_told before (t ∷ ts) id = last_told (cond (t.0 == id) t.1.0 before) ts id

abbrev mention_told : ChangeTold → Mention
mention_told t = record { id = t.0; puts = is_some t.1.0 }

either_id : (c : Change) (before : Option Tree) (id : ℕ) → cond (id == c.id) c.object before ≡ cond (c.id == id) c.object before
either_id c before id = ap (λ b. cond b c.object before) (eqb_sym id c.id)

-- ---- the history

history_told : (cs : List Change) (kind : Kind) (id : ℕ) (before : Option Tree) → object_from before cs kind id ≡ last_told before (map told_in (of_kind kind cs)) id
history_told [] kind id before = refl
history_told (c ∷ cs) kind id before = by_cases (is_kind kind c.kind) (λ b. history_told cs kind id b)
  where
    by_cases : (of : Bool) → ((b : Option Tree) → object_from b cs kind id ≡ last_told b (map told_in (of_kind kind cs)) id)
        → object_from (cond (of && (id == c.id)) c.object before) cs kind id ≡ last_told before (map told_in (cond of (c ∷ of_kind kind cs) (of_kind kind cs))) id
    by_cases true rest = rest (cond (id == c.id) c.object before) ∙ ap (λ b. last_told b (map told_in (of_kind kind cs)) id) (either_id c before id)
    by_cases false rest = rest before

kept_again : (p : Change → Bool) (k : ℕ) (cs : List Change) → filter p (take k (filter p cs)) ≡ take k (filter p cs)
kept_again p k [] = ap (λ l. filter p l) (take-nil k) ∙ sym (take-nil k)
kept_again p k (c ∷ cs) = by_cases k (p c) refl (λ n. kept_again p n cs)
  where
    by_cases : (k : ℕ) (b : Bool) → p c ≡ b → ((n : ℕ) → filter p (take n (filter p cs)) ≡ take n (filter p cs)) → filter p (take k (cond b (c ∷ filter p cs) (filter p cs))) ≡ take k (cond b (c ∷ filter p cs) (filter p cs))
    by_cases zero true e rest = refl
    by_cases (suc k) true e rest = ap (λ b. cond b (c ∷ filter p (take k (filter p cs))) (filter p (take k (filter p cs)))) e ∙ ap (λ l. c ∷ l) (rest k)
    by_cases k false e rest = rest k

take_map : {X Y : Type 0} (f : X → Y) (k : ℕ) (xs : List X) → map f (take k xs) ≡ take k (map f xs)
take_map f zero xs = refl
take_map f (suc k) [] = refl
take_map f (suc k) (x ∷ xs) = ap (λ l. f x ∷ l) (take_map f k xs)

-- ---- the log

module _ {T : Type 0} (read : T → Tree) where
  log_told : (ps : List (Put T)) (id : ℕ) (before : Option T) → option_map read (latest_from before ps id) ≡ last_told (option_map read before) (map (told_by read) ps) id
  log_told [] id before = refl
  log_told (p ∷ ps) id before = log_told ps id (cond (p.id == id) p.object before) ∙ ap (λ b. last_told b (map (told_by read) ps) id) (either (p.id == id))
    where
      either : (b : Bool) → option_map read (cond b p.object before) ≡ cond b (option_map read p.object) (option_map read before)
      either true = refl
      either false = refl

  module _ (ps : List (Put T)) (kind : Kind) (cs : List Change) (follows : Follows read ps kind cs) where
    pub shows_object : (id : ℕ) → option_map read (latest ps id) ≡ live_object cs kind id
    shows_object id = log_told ps id None ∙ ap (λ l. last_told None l id) follows ∙ sym (history_told cs kind id None)

    pub shows_earlier : (k id : ℕ) → option_map read (latest_at ps k id) ≡ live_object (take k (of_kind kind cs)) kind id
    shows_earlier k id =
        log_told (take k ps) id None ∙ ap (λ l. last_told None l id) (take_map (told_by read) k ps ∙ ap (take k) follows ∙ sym (take_map told_in k (of_kind kind cs)))
        ∙ ap (λ l. last_told None (map told_in l) id) (sym (kept_again (λ c. is_kind kind c.kind) k cs)) ∙ sym (history_told (take k (of_kind kind cs)) kind id None)

    pub shows_mentions : said ps ≡ mentions kind cs
    shows_mentions = of_log ps ∙ ap (map mention_told) follows ∙ sym (of_history (of_kind kind cs))
      where
        puts_too : (o : Option T) → is_some o ≡ is_some (option_map read o)
        puts_too None = refl
        puts_too (Some x) = refl

        of_log : (ps : List (Put T)) → said ps ≡ map mention_told (map (told_by read) ps)
        of_log [] = refl
        of_log (p ∷ ps) = ap (λ l. mention_in p ∷ l) (of_log ps) ∙ ap (λ b. (record { id = p.id; puts = b }) ∷ map mention_told (map (told_by read) ps)) (puts_too p.object)

        of_history : (cs : List Change) → map mention_of cs ≡ map mention_told (map told_in cs)
        of_history [] = refl
        of_history (c ∷ cs) = ap (λ l. mention_of c ∷ l) (of_history cs)

    pub shows_ids : ids_put ps ≡ ids_at cs kind
    shows_ids = of_log ps [] ∙ ap (fold (λ is (t : ChangeTold). with_id is t.0) []) follows ∙ sym (of_history cs [])
      where
        of_log : (ps : List (Put T)) (ids : List ℕ) → fold (λ is (p : Put T). with_id is p.id) ids ps ≡ fold (λ is (t : ChangeTold). with_id is t.0) ids (map (told_by read) ps)
        of_log [] ids = refl
        of_log (p ∷ ps) ids = of_log ps (with_id ids p.id)

        of_history : (cs : List Change) (ids : List ℕ) → ids_from ids cs kind ≡ fold (λ is (t : ChangeTold). with_id is t.0) ids (map told_in (of_kind kind cs))
        of_history [] ids = refl
        of_history (c ∷ cs) ids = by_cases (is_kind kind c.kind) (of_history cs)
          where
            by_cases : (of : Bool) → ((is : List ℕ) → ids_from is cs kind ≡ fold (λ js (t : ChangeTold). with_id js t.0) is (map told_in (of_kind kind cs)))
                → ids_from (cond of (with_id ids c.id) ids) cs kind ≡ fold (λ js (t : ChangeTold). with_id js t.0) ids (map told_in (cond of (c ∷ of_kind kind cs) (of_kind kind cs)))
            by_cases true rest = rest (with_id ids c.id)
            by_cases false rest = rest ids

    pub shows_count : length ps ≡ count_of_kind cs kind
    shows_count = sym (length-map ps (told_by read)) ∙ ap length follows ∙ length-map (of_kind kind cs) told_in ∙ length-filter (λ c. is_kind kind c.kind) cs

    pub shows_bytes : (k : ℕ) → bytes_put (drop k ps) ≡ size_of (drop k (of_kind kind cs))
    shows_bytes k = of_log (drop k ps) ∙ ap (sum_by (λ (t : ChangeTold). t.1.1)) (sym (drop_map (told_by read) k ps) ∙ ap (drop k) follows ∙ drop_map told_in k (of_kind kind cs)) ∙ sym (of_history (drop k (of_kind kind cs)))
      where
        drop_map : {X Y : Type 0} (f : X → Y) (k : ℕ) (xs : List X) → drop k (map f xs) ≡ map f (drop k xs)
        drop_map f zero xs = refl
        drop_map f (suc k) [] = refl
        drop_map f (suc k) (x ∷ xs) = drop_map f k xs

        of_log : (qs : List (Put T)) → bytes_put qs ≡ sum_by (λ (t : ChangeTold). t.1.1) (map (told_by read) qs)
        of_log [] = refl
        of_log (p ∷ qs) = sum_by-cons (λ (q : Put T). q.size) p qs ∙ ap (λ n. p.size + n) (of_log qs) ∙ sym (sum_by-cons (λ (t : ChangeTold). t.1.1) (told_by read p) (map (told_by read) qs))

        of_history : (ds : List Change) → size_of ds ≡ sum_by (λ (t : ChangeTold). t.1.1) (map told_in ds)
        of_history [] = refl
        of_history (d ∷ ds) = sum_by-cons (λ (c : Change). size_of_object c.object) d ds ∙ ap (λ n. size_of_object d.object + n) (of_history ds) ∙ sym (sum_by-cons (λ (t : ChangeTold). t.1.1) (told_in d) (map told_in ds))

    pub shows_known : (k : ℕ) → is_known ps k ≡ is_answered_from kind cs k
    shows_known k = ap (λ n. is_retained n k && nat_le (bytes_put (drop k ps)) window_bytes) shows_count ∙ ap (λ n. is_retained (count_of_kind cs kind) k && nat_le n window_bytes) (shows_bytes k)
