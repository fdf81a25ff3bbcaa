use Rattle.std.proofs.Common.{◌∷◌, [], ◌∙◌, ap, codes, map}
use Rattle.spec_json.specs.Data.{text}
use Rattle.spec_json.specs.TreeData.{keyed}
use Rattle.session_doc.proofs.session.trailing.Goals as goal

pub returns : goal.returns
returns c = λ site.
    ap (map keyed) c.in_ok-members.ensures.items
    ∙ (λ i. (codes "eventSourceUrl", c.in_ok-events.ensures i) ∷ (codes "primaryAccounts", c.in_ok-primary.ensures site i) ∷ (codes "state", text (c.in_ok-from_str.ensures i))
    ∷ (codes "uploadUrl", c.in_ok-upload.ensures i) ∷ (codes "username", text (c.in_ok-copy.ensures i)) ∷ [])
