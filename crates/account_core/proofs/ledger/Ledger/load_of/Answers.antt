use Rattle.std.proofs.Common.{◌≡◌, ◌∙◌, Bor, Option, Some, ap, arith, is_some, option_map, sym}
use Rattle.account_core.proofs.Counting.{bytes_counted, one_if}
use Rattle.account_core.specs.Ledger.{changes}
use Rattle.cal_model.specs.Quota.{size_of_object}
use Rattle.spec_history.specs.History.{live_object}
use Rattle.spec_json.specs.declared.tree.Tree.{Tree}
use Rattle.account_core.proofs.ledger.Ledger.load_of.Goals as goal

pub returns-in-Some-clause-objects : goal.returns-in-Some-clause-objects
returns-in-Some-clause-objects c =
    let is : Some c.in-Some.object.now ≡ live_object (changes c.args.self.now) c.args.kind c.args.id = sym (ap (option_map (λ (t : Bor Tree). t.now)) c.in-Some.is) ∙ c.live.ensures in
    ap (λ (o : Option Tree). one_if (is_some o)) is

pub returns-in-Some-clause-bytes : goal.returns-in-Some-clause-bytes
returns-in-Some-clause-bytes c =
    let l = c.args.self.now in
    let is : Some c.in-Some.object.now ≡ live_object (changes l) c.args.kind c.args.id = sym (ap (option_map (λ (t : Bor Tree). t.now)) c.in-Some.is) ∙ c.live.ensures in
    let within = bytes_counted l.tally (changes l) c.args.kind c.args.id l.told in
    let size = ap size_of_object is in
    omega (arith, c.text_length.ensures, within, size, l.tally.small)
