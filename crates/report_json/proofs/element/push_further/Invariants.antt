-- What the text has, with the elements that are still to be gone over, is the whole.
use Rattle.std.proofs.Common.{◌≡◌, ◌++◌, string_bytes, drop}
use Rattle.report_json.specs.Json.{further}
use Rattle.report_json.proofs.element.push_further.Given as goal

abbrev pub invariant-loop-element : goal.invariant-loop-element
invariant-loop-element g l =
    let text_of = g.E.Element.text_of in
    string_bytes l.text ++ further text_of (drop l.element-index l.elements)
    ≡ string_bytes l.fn.text ++ further text_of l.fn.elements
