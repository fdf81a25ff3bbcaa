-- Why a day of the week is looked for without a place, from the front and from the end.
use Rattle.std.proofs.Common.{◌∙◌, ◌||◌, FitsSigned, None, Some, neg_ℤ, pos, rules, sym, w32}
use Rattle.std.proofs.lemmas.Int.{to_z-of_z}
use Rattle.rule_expand.proofs.Items.{left_open, names_nday, nday_among, settled}
use Rattle.rule_expand.proofs.occurs.has_weekday.Goals as goal
use Rattle.rule_expand.proofs.occurs.has_weekday.Goals.{then-names_all, else-names_all}

pub returns-then-names_place : goal.returns-then-names_place
returns-then-names_place c =
    let all = names_nday c.args.weekday None c.args.days.now in
    let front = names_nday c.args.weekday (Some (pos c.args.front)) c.args.days.now in
    let back = names_nday c.args.weekday (Some (neg_ℤ (pos c.args.back))) c.args.days.now in
    settled (all || front) back c.if-names_all.value (elim c.if-names_all.branch [
      | then-names_all w ↦ settled all front c.if-names_all.value (w.value-is ∙ c.names_all.ensures) c.if-names_place.true
      | else-names_all w ↦
          let f : FitsSigned w32 w.front_place.result = search rules in
          let found = simp w.front_place.ensures at (simp to_z-of_z at w.names_place.ensures) in
          left_open all front c.names_all.result c.if-names_all.value c.names_all.ensures w.if-names_all.false (w.value-is ∙ found)
    ]) c.if-names_place.true ∙ sym (nday_among c.args.weekday c.args.front c.args.back c.args.days.now)

pub returns-else-names_place : goal.returns-else-names_place
returns-else-names_place c =
    let all = names_nday c.args.weekday None c.args.days.now in
    let front = names_nday c.args.weekday (Some (pos c.args.front)) c.args.days.now in
    let back = names_nday c.args.weekday (Some (neg_ℤ (pos c.args.back))) c.args.days.now in
    let g : FitsSigned w32 c.back_place.result = search rules in
    let found_back = simp c.back_place.ensures at (simp to_z-of_z at c.names_place-else-names_place.ensures) in
    left_open (all || front) back c.if-names_all.value c.names_place-else-names_place.result (elim c.if-names_all.branch [
      | then-names_all w ↦ settled all front c.if-names_all.value (w.value-is ∙ c.names_all.ensures) (w.value-is ∙ w.if-names_all.true)
      | else-names_all w ↦
          let f : FitsSigned w32 w.front_place.result = search rules in
          let found = simp w.front_place.ensures at (simp to_z-of_z at w.names_place.ensures) in
          left_open all front c.names_all.result c.if-names_all.value c.names_all.ensures w.if-names_all.false (w.value-is ∙ found)
    ]) c.if-names_place.false found_back ∙ sym (nday_among c.args.weekday c.args.front c.args.back c.args.days.now)
