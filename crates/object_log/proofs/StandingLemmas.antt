-- One more mention: how ids stand after it.
use Rattle.std.proofs.Common.{◌≡◌, ◌≤◌, ◌<◌, ◌+◌, ◌==◌, ◌||◌, ℕ, List, Bool, true, false, cond, Option, option_map, length, get_or, refl, sym, ap, ◌∙◌}
use Rattle.spec_history.specs.Pages.{Mention, is_live, is_touched}
use Rattle.object_log.proofs.MentionLemmas.{is_live_more, is_touched_more, is_touched_none}
use Rattle.object_log.specs.Standing.{standing, after, is_named_after, only_if}
use Rattle.object_log.specs.declared.standing.Standing.{Standing}

same_or_after : (b was live touched puts : Bool) (m : Mention) → m.puts ≡ puts
    → (record { was_live = was; is_live = cond b puts live; is_touched = touched || b }) ≡ cond b (after m (record { was_live = was; is_live = live; is_touched = touched })) (record { was_live = was; is_live = live; is_touched = touched })
same_or_after true was live true puts m h = rw h refl
same_or_after true was live false puts m h = rw h refl
same_or_after false was live true puts m h = refl
same_or_after false was live false puts m h = refl

pub standing_more : (ms : List Mention) (k j : ℕ) (d : Mention) (id : ℕ) → k ≤ j → j < length ms → standing ms k (j + 1) id ≡ cond ((get_or ms j d).id == id) (after (get_or ms j d) (standing ms k j id)) (standing ms k j id)
standing_more ms k j d id le h =
    rw (is_live_more ms j d id h, is_touched_more ms k j d id le h) (same_or_after ((get_or ms j d).id == id) (is_live ms k id) (is_live ms j id) (is_touched ms k j id) (get_or ms j d).puts (get_or ms j d) refl)

-- at the state where a page begins
pub standing_begun : (ms : List Mention) (k id : ℕ) → standing ms k k id ≡ record { was_live = is_live ms k id; is_live = is_live ms k id; is_touched = false }
standing_begun ms k id = rw (is_touched_none ms k id) refl

only_if-cond : (named b : Bool) (m : Mention) (s : Standing) → only_if named (cond b (after m s) s) ≡ option_map (λ t. cond b (after m t) t) (only_if named s)
only_if-cond true b m s = refl
only_if-cond false b m s = refl

-- what a map has for an id after one more mention
pub found_more : (ms : List Mention) (k j : ℕ) (m : Mention) (id : ℕ) (was now : Option Standing) → k ≤ j → j < length ms → m ≡ get_or ms j m
    → was ≡ only_if (is_named_after ms k id) (standing ms k j id) → now ≡ option_map (λ s. cond (m.id == id) (after m s) s) was
    → now ≡ only_if (is_named_after ms k id) (standing ms k (j + 1) id)
found_more ms k j m id was now le h at is more =
    let advanced = λ (n : Mention) (o : Option Standing). option_map (λ s. cond (n.id == id) (after n s) s) o in
    more ∙ ap (λ n. advanced n was) at ∙ ap (λ o. advanced (get_or ms j m) o) is ∙ sym (only_if-cond (is_named_after ms k id) ((get_or ms j m).id == id) (get_or ms j m) (standing ms k j id)) ∙ ap (λ s. only_if (is_named_after ms k id) s) (sym (standing_more ms k j m id le h))
