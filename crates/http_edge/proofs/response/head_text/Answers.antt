use Rattle.std.proofs.Common.{◌≡◌, length, ap, ◌∙◌, string_bytes}
use Rattle.spec_http.specs.Responses.{content}
use Rattle.http_edge.specs.Reading.{response_shown}
use Rattle.http_edge.proofs.HeadText.{text_parts}
use Rattle.http_edge.proofs.response.head_text.Goals as goal

pub returns : goal.returns
returns c =
    let len : length c.content.result.now ≡ length (content (response_shown c.args.response.now)) = ap length c.content.ensures in
    c.in_ok-text.ensures.ok
    ∙ text_parts c.args.response.now.status c.phrase_of-phrase.result.now _ c.type_line-type_line.result.now _ (length c.content.result.now) _ c.challenge_line-challenge.result.now _
    (string_bytes c.in_ok-allow.allow) _ c.close_line-close.result.now _
    c.phrase_of-phrase.ensures c.type_line-type_line.ensures len c.challenge_line-challenge.ensures c.in_ok-allow.ensures c.close_line-close.ensures
