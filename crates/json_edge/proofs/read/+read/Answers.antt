use Rattle.std.proofs.Common.{◌≡◌, ◌-◌, ◌<◌, [], ◌∷◌, ◌++◌, length, map, Some, None, option_map, sym, ap, ap₂, ◌∙◌, arith, rules, append-nil}
use Rattle.std.proofs.lemmas.List.{map-append}
use Rattle.json.specs.Token.{Token}
use Rattle.json.specs.Json.{parse_map, after_end_array, read_key, items, members, value}
use Rattle.json.specs.Reads.{token_of}
use Rattle.json.proofs.Grammar.{value_is, value-begin_array, value-begin_object, read_key-shorter}
use Rattle.serde_json.specs.Read.{converted}
use Rattle.spec_json.specs.TreeData.{data_of}
use Rattle.json_edge.specs.Readings.{value_read, items_read, members_read, one_item, and_items, list_data}
use Rattle.json_edge.specs.FoundData.{found_of, all_data}
use Rattle.json_edge.proofs.Reading.{next_item, item_refused, items_over, next_member, member_refused, key_refused, members_over, number_read, one_more_item, no_item_yet, after_all, one_more_member, no_member_yet, converted_array}
use Rattle.json_edge.proofs.Settling.{converted_object}
use Rattle.json_edge.specs.FoundMembers.{object_found}
use Rattle.std.proofs.lemmas.Result.{IfOk-weaker}
use Rattle.spec_json.specs.Data.{text}
use Rattle.json_edge.proofs.read.+read.Goals as goal

pub read_items-items-init : goal.read_items-items-init
read_items-items-init t c =
    let all = converted items_read (items (value c.args.depth) (length c.args.reader.now) c.args.reader.now) in
    (length c.args.reader.now, omega arith, no_item_yet all ∙ ap (λ vs. parse_map (and_items (Some (map data_of vs))) all) (sym c.gathering.ensures), omega arith)

pub read_items-returns-in_err-item-clause-refused : goal.read_items-returns-in_err-item-clause-refused
read_items-returns-in_err-item-clause-refused t c never =
    let p = value c.args.depth in
    let l = c.items in
    let n = l.invariant.0 in
    let going : (after_end_array l.reader ≡ None) × (c.take_end_array.new.self ≡ l.reader) = grind arith in
    l.invariant.2 ∙ ap (parse_map (and_items (all_data l.found))) (item_refused p n l.reader going.0 (rw (← going.1) (c.read.ensures.refused (grind arith))))

pub read_items-items-preserved : goal.read_items-items-preserved
read_items-items-preserved t c =
    let p = value c.args.depth in
    let l = c.items in
    let n = l.invariant.0 in
    let going : (after_end_array l.reader ≡ None) × (c.take_end_array.new.self ≡ l.reader) = grind arith in
    let done = c.in_ok-item.ensures in
    let v = option_map data_of c.in_ok-item.item in
    let r = c.read.new.reader in
    let less : length r < length l.reader = rw (← going.1) done.shorter in
    let turn = next_item p n l.reader r v (omega (arith, l.invariant.1)) going.0 (rw (← going.1) done.ok) in (
      n - 1,
      omega (arith, l.invariant.1),
      l.invariant.2 ∙ ap (parse_map (and_items (all_data l.found))) turn ∙ one_more_item (all_data l.found) (one_item v) _
          ∙ ap (λ vs. parse_map (and_items vs) (converted items_read (items p (n - 1) r))) (sym c.in_ok-found.ensures.ok),
      omega (arith, l.invariant.3),
    )

pub read_items-returns-clause-ok : goal.read_items-returns-clause-ok
read_items-returns-clause-ok t c =
    let p = value c.args.depth in
    let l = c.items in
    let n = l.invariant.0 in
    let r = c.take_end_array.new.self in
    l.invariant.2 ∙ ap (parse_map (and_items (all_data l.found))) (items_over p n l.reader r l.invariant.1 (grind arith)) ∙ ap (λ ds. Some (ds, r)) (after_all (all_data l.found))

pub read_members-members-init : goal.read_members-members-init
read_members-members-init t c =
    let all = converted members_read (members (value c.args.depth) (length c.args.reader.now) c.args.reader.now) in
    (length c.args.reader.now, omega arith, no_member_yet all ∙ ap (λ vs. parse_map (λ es. map found_of vs ++ es) all) (sym c.in_ok-found.ensures.items), omega arith)

pub read_members-returns-in_err-name-clause-refused : goal.read_members-returns-in_err-name-clause-refused
read_members-returns-in_err-name-clause-refused t c never =
    let l = c.members in
    let n = l.invariant.0 in
    l.invariant.2 ∙ ap (parse_map (λ es. map found_of l.found.items ++ es)) (key_refused (value c.args.depth) n l.reader c.in_err-name.ensures.value)

pub read_members-returns-in_err-value-clause-refused : goal.read_members-returns-in_err-value-clause-refused
read_members-returns-in_err-value-clause-refused t c never =
    let l = c.members in
    let n = l.invariant.0 in
    let k = c.in-Some.name.now in
    let s = c.next_key.new.self in
    let named : read_key l.reader ≡ Some (Some k, s) = grind arith in
    l.invariant.2 ∙ ap (parse_map (λ es. map found_of l.found.items ++ es)) (member_refused (value c.args.depth) n k l.reader s named (c.read.ensures.refused (grind arith)))

pub read_members-members-preserved : goal.read_members-members-preserved
read_members-members-preserved t c =
    let p = value c.args.depth in
    let l = c.members in
    let n = l.invariant.0 in
    let k = c.in-Some.name.now in
    let s = c.next_key.new.self in
    let named : read_key l.reader ≡ Some (Some k, s) = grind arith in
    let done = c.in_ok-value.ensures in
    let v = option_map data_of c.in_ok-value.value in
    let r = c.read.new.reader in
    let less = read_key-shorter l.reader (Some k) s named in
    let lesser = done.shorter in
    let old = map found_of l.found.items in
    let copied : c.in_ok-key.key ≡ k = search rules in
    let pushed : old ++ (k, v) ∷ [] ≡ map found_of c.push.new.self.items =
    ap (λ name. old ++ (name, v) ∷ []) (sym copied) ∙ sym (map-append found_of l.found.items _) ∙ ap (map found_of) (sym c.in_ok-push.ensures.items) in (
      n - 1,
      omega (arith, l.invariant.1),
      l.invariant.2 ∙ ap (parse_map (λ es. old ++ es)) (next_member p n k l.reader s r v (omega (arith, l.invariant.1)) named done.ok)
          ∙ one_more_member old (k, v) _ ∙ ap (λ found. parse_map (λ es. found ++ es) (converted members_read (members p (n - 1) r))) pushed,
      omega (arith, l.invariant.3),
    )

pub read_members-returns-clause-ok : goal.read_members-returns-clause-ok
read_members-returns-clause-ok t c =
    let l = c.members in
    let n = l.invariant.0 in
    let r = c.next_key.new.self in
    l.invariant.2 ∙ ap (parse_map (λ es. map found_of l.found.items ++ es)) (members_over (value c.args.depth) n l.reader r l.invariant.1 (grind arith)) ∙ ap (λ es. Some (es, r)) (append-nil _)

pub read-returns-in_err-token-clause-refused : goal.read-returns-in_err-token-clause-refused
read-returns-in_err-token-clause-refused t c never =
    let empty : c.args.reader.now ≡ [] = grind arith in
    ap (converted value_read) (ap (value c.args.depth) empty ∙ value_is c.args.depth [])

pub read-returns-then-depth-eq0-clause-refused : goal.read-returns-then-depth-eq0-clause-refused
unfolding value
read-returns-then-depth-eq0-clause-refused t c never =
    let first : c.args.reader.now ≡ token_of c.in_ok-token.token ∷ c.next.new.self = grind arith in
    let none : c.args.depth ≡ 0 = omega arith in
    ap (converted value_read) (ap₂ value none (first ∙ ap (λ k. token_of k ∷ c.next.new.self) c.in-BeginArray.is))

pub read-returns-then-depth-eq0-2-clause-refused : goal.read-returns-then-depth-eq0-2-clause-refused
unfolding value
read-returns-then-depth-eq0-2-clause-refused t c never =
    let first : c.args.reader.now ≡ token_of c.in_ok-token.token ∷ c.next.new.self = grind arith in
    let none : c.args.depth ≡ 0 = omega arith in
    ap (converted value_read) (ap₂ value none (first ∙ ap (λ k. token_of k ∷ c.next.new.self) c.in-BeginObject.is))

pub read-returns-in_err-found-in-BeginArray-clause-refused : goal.read-returns-in_err-found-in-BeginArray-clause-refused
read-returns-in_err-found-in-BeginArray-clause-refused t c refused =
    let first : c.args.reader.now ≡ token_of c.in_ok-token.token ∷ c.next.new.self = grind arith in
    let opened = ap (converted value_read) (ap (value c.args.depth) (first ∙ ap (λ k. token_of k ∷ c.next.new.self) c.in-BeginArray.is) ∙ value-begin_array c.args.depth c.next.new.self (omega arith)) ∙ converted_array (items (value (c.args.depth - 1)) (length c.next.new.self) c.next.new.self) in
    opened ∙ ap (parse_map (option_map list_data)) (c.read_items.ensures.refused (grind arith))

pub read-returns-in_err-read_members-in-BeginObject-clause-refused : goal.read-returns-in_err-read_members-in-BeginObject-clause-refused
read-returns-in_err-read_members-in-BeginObject-clause-refused t c refused =
    let first : c.args.reader.now ≡ token_of c.in_ok-token.token ∷ c.next.new.self = grind arith in
    let opened = ap (converted value_read) (ap (value c.args.depth) (first ∙ ap (λ k. token_of k ∷ c.next.new.self) c.in-BeginObject.is) ∙ value-begin_object c.args.depth c.next.new.self (omega arith)) ∙ converted_object (members (value (c.args.depth - 1)) (length c.next.new.self) c.next.new.self) in
    opened ∙ ap (parse_map object_found) (c.read_members.ensures.refused (grind arith))

pub read-returns-in_ok-from_str-in-String-clause-ok : goal.read-returns-in_ok-from_str-in-String-clause-ok
read-returns-in_ok-from_str-in-String-clause-ok t c =
    let first : c.args.reader.now ≡ token_of c.in_ok-token.token ∷ c.next.new.self = grind arith in
    let is : c.args.reader.now ≡ Token.string c.in-String.text.now ∷ c.next.new.self = grind (arith, first) in
    let copied : c.in_ok-from_str-in-String.field-0 ≡ c.in-String.text.now = c.in_ok-from_str-in-String.ensures in
    ap (converted value_read) (ap (value c.args.depth) is ∙ value_is c.args.depth _) ∙ ap (λ s. Some (Some (text s), c.next.new.self)) (sym copied)

pub read-returns-in-Bool-clause-ok : goal.read-returns-in-Bool-clause-ok
read-returns-in-Bool-clause-ok t c =
    let first : c.args.reader.now ≡ token_of c.in_ok-token.token ∷ c.next.new.self = grind arith in
    let is : c.args.reader.now ≡ Token.boolean c.in-Bool.b ∷ c.next.new.self = grind (arith, first) in
    ap (converted value_read) (ap (value c.args.depth) is ∙ value_is c.args.depth _)

pub read-returns-in-Null-clause-ok : goal.read-returns-in-Null-clause-ok
read-returns-in-Null-clause-ok t c =
    let first : c.args.reader.now ≡ token_of c.in_ok-token.token ∷ c.next.new.self = grind arith in
    let is : c.args.reader.now ≡ Token.null ∷ c.next.new.self = grind (arith, first) in
    ap (converted value_read) (ap (value c.args.depth) is ∙ value_is c.args.depth _)

pub read-returns-in-EndObject-clause-refused : goal.read-returns-in-EndObject-clause-refused
read-returns-in-EndObject-clause-refused t c never =
    let first : c.args.reader.now ≡ token_of c.in_ok-token.token ∷ c.next.new.self = grind arith in
    let none : value c.args.depth c.args.reader.now ≡ None = rw (value_is c.args.depth c.args.reader.now, first) (grind arith) in
    ap (converted value_read) none

pub read-returns-in_ok-found-in-BeginArray-clause-ok : goal.read-returns-in_ok-found-in-BeginArray-clause-ok
read-returns-in_ok-found-in-BeginArray-clause-ok t c =
    let first : c.args.reader.now ≡ token_of c.in_ok-token.token ∷ c.next.new.self = grind arith in
    let opened = ap (converted value_read) (ap (value c.args.depth) (first ∙ ap (λ k. token_of k ∷ c.next.new.self) c.in-BeginArray.is) ∙ value-begin_array c.args.depth c.next.new.self (omega arith)) ∙ converted_array (items (value (c.args.depth - 1)) (length c.next.new.self) c.next.new.self) in
    let found = c.in_ok-found-in-BeginArray in
    IfOk-weaker c.list.result _ _ (λ o is. opened ∙ ap (parse_map (option_map list_data)) found.ensures.ok ∙ ap (λ d. Some (d, c.read_items.new.reader)) (sym is)) c.list.ensures.ok

pub read-returns-in_ok-read_members-in-BeginObject-clause-ok : goal.read-returns-in_ok-read_members-in-BeginObject-clause-ok
read-returns-in_ok-read_members-in-BeginObject-clause-ok t c =
    let first : c.args.reader.now ≡ token_of c.in_ok-token.token ∷ c.next.new.self = grind arith in
    let opened = ap (converted value_read) (ap (value c.args.depth) (first ∙ ap (λ k. token_of k ∷ c.next.new.self) c.in-BeginObject.is) ∙ value-begin_object c.args.depth c.next.new.self (omega arith)) ∙ converted_object (members (value (c.args.depth - 1)) (length c.next.new.self) c.next.new.self) in
    let found = c.in_ok-read_members-in-BeginObject in
    IfOk-weaker c.object.result _ _ (λ o is. opened ∙ ap (parse_map object_found) found.ensures.ok ∙ ap (λ d. Some (d, c.read_members.new.reader)) is) c.object.ensures.ok

pub read-returns-in_ok-number-in-Number-clause-ok : goal.read-returns-in_ok-number-in-Number-clause-ok
read-returns-in_ok-number-in-Number-clause-ok t c =
    let first : c.args.reader.now ≡ token_of c.in_ok-token.token ∷ c.next.new.self = grind arith in
    let is : c.args.reader.now ≡ Token.number c.in-Number.text.now ∷ c.next.new.self = grind (arith, first) in
    ap (converted value_read) (ap (value c.args.depth) is ∙ value_is c.args.depth _)
    ∙ ap (option_map (λ o. (o, c.next.new.self))) (number_read c.in-Number.text.now (Some (option_map data_of c.in_ok-number-in-Number.field-0)) c.in_ok-number-in-Number.ensures)

pub read-returns-in_err-number-in-Number-clause-refused : goal.read-returns-in_err-number-in-Number-clause-refused
read-returns-in_err-number-in-Number-clause-refused t c never =
    let first : c.args.reader.now ≡ token_of c.in_ok-token.token ∷ c.next.new.self = grind arith in
    let is : c.args.reader.now ≡ Token.number c.in-Number.text.now ∷ c.next.new.self = grind (arith, first) in
    ap (converted value_read) (ap (value c.args.depth) is ∙ value_is c.args.depth _)
    ∙ ap (option_map (λ o. (o, c.next.new.self))) (number_read c.in-Number.text.now None c.in_err-number-in-Number.ensures)
