use Rattle.std.proofs.Common.{rules, ◌≡◌, ◌++◌, ◌∷◌, []}
use Rattle.json.specs.{Token.{begin_object, end_object}, Print.print}
use Rattle.xa_lines.{specs.{Script.lines_of, Objects.{form_for, parts_tokens}}, proofs.JsonWritten.object_done}
use Rattle.xa_lines.proofs.json_objects.with_object.Goals as goal

pub returns : goal.returns
returns c =
    let line = c.args.line.now in
    let one = c.begin_object.new.self.tokens in
    let two = c.write_parts.new.writer.tokens in
    let three = c.end_object.new.self.tokens in
    let first : one ≡ begin_object ∷ [] = search rules in
    let second : two ≡ one ++ parts_tokens (lines_of (form_for line)) line = search rules in
    let third : three ≡ two ++ end_object ∷ [] = search rules in
    let written : c.into_inner-more.result.items ≡ c.args.text.items ++ print three = search rules in
    object_done c.args.text.items c.into_inner-more.result.items c.extend_from_slice.new.self.items line one two three
    first second third written (search rules)
