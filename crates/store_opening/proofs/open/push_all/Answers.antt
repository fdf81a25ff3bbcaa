use Rattle.std.proofs.Common.{◌≡◌, ◌⊎◌, ◌++◌, ◌∷◌, [], List, ap, append_assoc, arith, drop, false, length, length-append, refl, rules, subst, suc, sym, ◌∙◌}
use Rattle.std.proofs.lemmas.Iterator.Adapters.{YieldsList-from_vec}
use Rattle.std.proofs.lemmas.Iterator.Consumers.{YieldsList-end, YieldsList-so_far, YieldsList-turn}
use Rattle.std.proofs.lemmas.List.{map-id}
use Rattle.std.proofs.lemmas.Result.{err_from_is_err_and}
use Rattle.account_store.specs.Opening.{opening_entries, opening_floor}
use Rattle.spec_history.specs.History.{changes_of}
use Rattle.spec_history.specs.declared.entry.Entry.{Entry}
use Rattle.spec_sizes.specs.Sizes.{is_answered_from}
use Rattle.spec_snapshots.specs.Numbered.{are_numbered}
use Rattle.store_opening.proofs.FrontLemmas.{behind, numbered_more, unnumbered_all}
use Rattle.store_opening.proofs.open.push_all.Goals as goal

pub loop-entry-init : goal.loop-entry-init
loop-entry-init c = record {
  grown = search rules;
  read = c.requires.read;
  floors = λ kind. refl;
  numbered = c.requires.numbered;
}

pub push-requires : goal.push-requires
push-requires c =
    let all = c.args.behind.items in
    let road = YieldsList-from_vec {s = c.into_iter-entry-iterator.result} all (search rules) (search rules) in
    let turn = YieldsList-turn road c.loop-entry.yielded c.loop-entry.entry-iterator c.loop-entry.yielded_by c.next.result c.next.new.self c.in-Some.entry c.in-Some.is c.next.ensures.steps in
    let longer = length-append (opening_entries c.args.opening) c.loop-entry.yielded in
    omega (arith, turn.0, c.requires.few, ap (λ (es : List Entry). length es) c.loop-entry.invariant.grown, longer)

pub loop-entry-preserved : goal.loop-entry-preserved
loop-entry-preserved c =
    let entry = c.in-Some.entry in
    record {
      grown = c.in_ok-push.ensures.entries ∙ ap (λ (es : List Entry). es ++ entry ∷ []) c.loop-entry.invariant.grown ∙ append_assoc (opening_entries c.args.opening) c.loop-entry.yielded (entry ∷ []);
      read = c.in_ok-push.ensures.read c.loop-entry.invariant.read;
      floors = λ kind. c.in_ok-push.ensures.floors kind ∙ c.loop-entry.invariant.floors kind;
      numbered = ap (λ (es : List Entry). are_numbered [] (changes_of es)) c.in_ok-push.ensures.entries
          ∙ numbered_more (opening_entries c.loop-entry.opening) entry c.loop-entry.invariant.numbered c.in_ok-push.ensures.numbered;
    }

pub into_store-requires : goal.into_store-requires
into_store-requires c = λ kind.
    let all = c.args.behind.items in
    let first = opening_entries c.args.opening in
    let road = YieldsList-from_vec {s = c.into_iter-entry-iterator.result} all (search rules) (search rules) in
    let done = YieldsList-end road c.loop-entry.yielded c.loop-entry.entry-iterator c.loop-entry.yielded_by c.next.result c.next.new.self c.in-None.is c.next.ensures.steps in
    let whole : opening_entries c.loop-entry.opening ≡ first ++ all = c.loop-entry.invariant.grown ∙ ap (λ (es : List Entry). first ++ es) (sym (map-id c.loop-entry.yielded) ∙ done.0) in
    let from = opening_floor c.args.opening kind in
    subst (λ n. (n ≡ 0) ⊎ (is_answered_from kind (changes_of (opening_entries c.loop-entry.opening)) n ≡ false)) (sym (c.loop-entry.invariant.floors kind))
    (subst (λ (es : List Entry). (from ≡ 0) ⊎ (is_answered_from kind (changes_of es) from ≡ false)) (sym whole) (c.requires.forgotten kind))

pub returns-clause-entries : goal.returns-clause-entries
returns-clause-entries c =
    let all = c.args.behind.items in
    let road = YieldsList-from_vec {s = c.into_iter-entry-iterator.result} all (search rules) (search rules) in
    let done = YieldsList-end road c.loop-entry.yielded c.loop-entry.entry-iterator c.loop-entry.yielded_by c.next.result c.next.new.self c.in-None.is c.next.ensures.steps in
    c.into_store.ensures.entries ∙ c.loop-entry.invariant.grown ∙ ap (λ (es : List Entry). opening_entries c.args.opening ++ es) (sym (map-id c.loop-entry.yielded) ∙ done.0)

pub returns-clause-numbered : goal.returns-clause-numbered
returns-clause-numbered c =
    let all = c.args.behind.items in
    let road = YieldsList-from_vec {s = c.into_iter-entry-iterator.result} all (search rules) (search rules) in
    let done = YieldsList-end road c.loop-entry.yielded c.loop-entry.entry-iterator c.loop-entry.yielded_by c.next.result c.next.new.self c.in-None.is c.next.ensures.steps in
    ap (λ (es : List Entry). are_numbered [] (changes_of es)) (sym (c.loop-entry.invariant.grown ∙ ap (λ (es : List Entry). opening_entries c.args.opening ++ es) (sym (map-id c.loop-entry.yielded) ∙ done.0)))
    ∙ c.loop-entry.invariant.numbered

pub returns-in_err-push-clause-refused : goal.returns-in_err-push-clause-refused
returns-in_err-push-clause-refused c =
    let all = c.args.behind.items in
    let yielded = c.loop-entry.yielded in
    let entry = c.in-Some.entry in
    let first = opening_entries c.args.opening in
    let road = YieldsList-from_vec {s = c.into_iter-entry-iterator.result} all (search rules) (search rules) in
    let so_far = YieldsList-so_far road yielded c.loop-entry.entry-iterator c.loop-entry.yielded_by in
    let turn = YieldsList-turn road yielded c.loop-entry.entry-iterator c.loop-entry.yielded_by c.next.result c.next.new.self entry c.in-Some.is c.next.ensures.steps in
    let rest = drop (suc (length yielded)) all in
    let split : first ++ all ≡ opening_entries c.loop-entry.opening ++ entry ∷ rest =
    ap (λ (es : List Entry). first ++ es) (behind all yielded entry so_far turn) ∙ sym (append_assoc first yielded (entry ∷ rest)) ∙ ap (λ (es : List Entry). es ++ entry ∷ rest) (sym c.loop-entry.invariant.grown) in
    let passed = err_from_is_err_and c.from_residual.result c.from_residual.ensures.1 in
    rw (passed.1, passed.2) (λ kind id is. ap (λ (es : List Entry). are_numbered [] (changes_of es)) split ∙ unnumbered_all (opening_entries c.loop-entry.opening) rest entry (c.in_err-push.ensures.refused kind id is))
