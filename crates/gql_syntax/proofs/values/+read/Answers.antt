use Rattle.std.proofs.Common.{◌≡◌, ◌<◌, ◌-◌, true, false, ◌∷◌, length, map, sym, ap, ◌∙◌, arith}
use Rattle.std.proofs.lemmas.Grind.{common_steps}
use Rattle.std.proofs.lemmas.Result.{err_from_is_err_and}
use Rattle.gql_ast.specs.Value.{vals_of, members_of, no_vals, no_members, list, object}
use Rattle.gql_ast.specs.ValueView.{argument_of, value_of}
use Rattle.gql_syntax.specs.Answers.{node_count}
use Rattle.gql_syntax.specs.Machine.{item, of_member, want, items, members, named, vals_then, members_then}
use Rattle.gql_syntax.specs.Nexts.{next_is}
use Rattle.gql_syntax.specs.Parts.{goes}
use Rattle.gql_syntax.specs.Places.{lay}
use Rattle.gql_syntax.specs.Spelling.{spell_value, spell_values, spell_members}
use Rattle.gql_syntax.specs.Steps.{value_on, put_alone}
use Rattle.gql_syntax.proofs.Tokens.{comes_at, comes_word}
use Rattle.gql_syntax.proofs.Spelled.{values_behind, members_behind}
use Rattle.gql_syntax.proofs.ValueMoves.{vals_of-behind, members_of-behind, opens_list, opens_object, item_begins, list_ends, names_field, field_begins, object_ends, tells_by, same_value_course, resized_tells}
use Rattle.gql_syntax.proofs.values.+read.Goals as goal

pub read_field-returns-clause-reads : goal.read_field-returns-clause-reads
read_field-returns-clause-reads t c =
    let size = length c.args.cursor.now.text in
    let n = c.in_ok-name.name in
    let text : c.expect.new.cursor.text ≡ c.args.cursor.now.text = c.expect.ensures.same ∙ c.read_name.ensures.same in
    λ ms p. names_field size c.args.constant c.args.cursor.now.source c.args.room ms p n (comes_word n c.args.cursor.now.source c.in_ok-name.ensures.name)
    ∙ ap (λ s. value_on size (goes (named c.args.constant c.args.room ms n p)) s) (sym c.in_ok-name.ensures.source)
    ∙ field_begins size c.args.constant c.read_name.new.cursor.source c.args.room ms p n c.in_ok-expect.ensures.found
    ∙ ap (λ s. value_on size (goes (want c.args.constant c.args.room (of_member c.args.constant c.args.room ms n p))) s) (sym c.in_ok-expect.ensures.source)
    ∙ same_value_course _ _ (goes (want c.args.constant c.args.room (of_member c.args.constant c.args.room ms n p))) (goes (members c.args.constant c.args.room (members_then ms n (value_of c.in_ok-value.value)) p))
    c.expect.new.cursor.source c.read.new.cursor.source (ap length text) (c.in_ok-value.ensures.reads (of_member c.args.constant c.args.room ms n p))

pub read_field-returns-clause-places : goal.read_field-returns-clause-places
read_field-returns-clause-places t c =
    λ around ns. c.in_ok-name.ensures.places (0 ∷ spell_value node_count (value_of c.in_ok-value.value) around ns)
    ∙ c.in_ok-expect.ensures.places (spell_value node_count (value_of c.in_ok-value.value) around ns) ∙ c.in_ok-value.ensures.places around ns

pub read_fields-fields-preserved : goal.read_fields-fields-preserved
read_fields-fields-preserved t c =
    let size = length c.args.cursor.now.text in
    let n = c.in_ok-field.field.name in
    let v = value_of c.in_ok-field.field.value in
    let pushed : members_of c.push.new.self ≡ members_then (members_of c.fields.fields) n v = ap members_of c.in_ok-push.ensures.ok ∙ members_of-behind c.fields.fields n v in
    record {
      reads = λ p. c.fields.invariant.reads p ∙ same_value_course _ _ (goes (members c.args.constant c.args.room (members_of c.fields.fields) p)) (goes (members c.args.constant c.args.room (members_then (members_of c.fields.fields) n v) p))
          c.fields.cursor.source c.read_field.new.cursor.source (ap length c.fields.invariant.same) (c.in_ok-field.ensures.reads (members_of c.fields.fields) p)
          ∙ ap (λ ms. value_on size (goes (members c.args.constant c.args.room ms p)) c.read_field.new.cursor.source) (sym pushed);
      places = λ around ns. ap (λ ms. lay (spell_members node_count ms around ns) c.args.cursor.now) pushed
          ∙ ap (λ xs. lay xs c.args.cursor.now) (members_behind node_count around ns (members_of c.fields.fields) n v)
          ∙ c.fields.invariant.places around (2 ∷ 0 ∷ spell_value node_count v around ns) ∙ c.in_ok-field.ensures.places around ns;
      same = c.in_ok-field.ensures.same ∙ c.fields.invariant.same;
      fewer = omega (arith, c.fields.invariant.fewer, c.in_ok-field.ensures.taken);
    }

pub read_fields-returns-clause-reads : goal.read_fields-returns-clause-reads
read_fields-returns-clause-reads t c =
    let size = length c.args.cursor.now.text in
    let n : next_is 125 c.fields.cursor.source ≡ true = grind (arith, common_steps) in
    let fitted : map argument_of c.shrink_to_fit.new.self.items ≡ c.fields.fields = grind (arith, common_steps) in
    λ p. c.fields.invariant.reads p ∙ object_ends size c.args.constant c.fields.cursor.source c.args.room (members_of c.fields.fields) p n
    ∙ ap (λ s. value_on size (put_alone (object (members_of c.fields.fields)) p) s) (sym c.in_ok-skip.ensures.source)
    ∙ ap (λ fs. value_on size (put_alone (object (members_of fs)) p) c.skip.new.self.source) (sym fitted)

pub read_items-returns-in_err-value-clause-reads : goal.read_items-returns-in_err-value-clause-reads
read_items-returns-in_err-value-clause-reads t c =
    let e = err_from_is_err_and c.from_residual.result c.from_residual.ensures.1 in
    let n : next_is 93 c.items.cursor.source ≡ false = grind (arith, common_steps) in
    λ p. rw (e.1, e.2) (tells_by c.in_err-value.field-0.0 _ _
    (c.items.invariant.reads p ∙ item_begins (length c.args.cursor.now.text) c.args.constant c.items.cursor.source c.args.room (vals_of c.items.values) p n)
    (resized_tells _ _ c.in_err-value.field-0.0 (goes (want c.args.constant c.args.room (item c.args.constant c.args.room (vals_of c.items.values) p))) c.items.cursor.source (ap length c.items.invariant.same) (c.in_err-value.ensures.reads (item c.args.constant c.args.room (vals_of c.items.values) p))))

pub read_items-items-preserved : goal.read_items-items-preserved
read_items-items-preserved t c =
    let size = length c.args.cursor.now.text in
    let v = value_of c.in_ok-value.value in
    let n : next_is 93 c.items.cursor.source ≡ false = grind (arith, common_steps) in
    let pushed : vals_of c.push.new.self ≡ vals_then (vals_of c.items.values) v = ap vals_of c.in_ok-push.ensures.ok ∙ vals_of-behind c.items.values v in
    record {
      reads = λ p. c.items.invariant.reads p ∙ item_begins size c.args.constant c.items.cursor.source c.args.room (vals_of c.items.values) p n
          ∙ same_value_course _ _ (goes (want c.args.constant c.args.room (item c.args.constant c.args.room (vals_of c.items.values) p))) (goes (items c.args.constant c.args.room (vals_then (vals_of c.items.values) v) p))
          c.items.cursor.source c.read.new.cursor.source (ap length c.items.invariant.same) (c.in_ok-value.ensures.reads (item c.args.constant c.args.room (vals_of c.items.values) p))
          ∙ ap (λ vs. value_on size (goes (items c.args.constant c.args.room vs p)) c.read.new.cursor.source) (sym pushed);
      places = λ around ns. ap (λ vs. lay (spell_values node_count vs around ns) c.args.cursor.now) pushed
          ∙ ap (λ xs. lay xs c.args.cursor.now) (values_behind node_count around ns (vals_of c.items.values) v)
          ∙ c.items.invariant.places around (spell_value node_count v around ns) ∙ c.in_ok-value.ensures.places around ns;
      same = c.in_ok-value.ensures.same ∙ c.items.invariant.same;
      fewer = omega (arith, c.items.invariant.fewer, c.in_ok-value.ensures.taken);
    }

pub read_items-returns-clause-reads : goal.read_items-returns-clause-reads
read_items-returns-clause-reads t c =
    let size = length c.args.cursor.now.text in
    let n : next_is 93 c.items.cursor.source ≡ true = grind (arith, common_steps) in
    let fitted : map value_of c.shrink_to_fit.new.self.items ≡ c.items.values = grind (arith, common_steps) in
    λ p. c.items.invariant.reads p ∙ list_ends size c.args.constant c.items.cursor.source c.args.room (vals_of c.items.values) p n
    ∙ ap (λ s. value_on size (put_alone (list (vals_of c.items.values)) p) s) (sym c.in_ok-skip.ensures.source)
    ∙ ap (λ vs. value_on size (put_alone (list (vals_of vs)) p) c.skip.new.self.source) (sym fitted)

pub read_punctuated-returns-in_err-read_items-clause-reads : goal.read_punctuated-returns-in_err-read_items-clause-reads
read_punctuated-returns-in_err-read_items-clause-reads t c =
    let size = length c.args.cursor.now.text in
    let e = err_from_is_err_and c.from_residual-in_err-read_items.result c.from_residual-in_err-read_items.ensures.1 in
    let n : next_is 91 c.args.cursor.now.source ≡ true = grind (arith, common_steps) in
    let l : 0 < c.args.room = omega arith in
    λ p. rw (e.1, e.2) (tells_by c.in_err-read_items.field-0.0 _ _
    (opens_list size c.args.constant c.args.cursor.now.source c.args.room p l (comes_at 91 c.args.cursor.now.source n)
    ∙ ap (λ s. value_on size (goes (items c.args.constant (c.args.room - 1) no_vals p)) s) (sym c.in_ok-skip.ensures.source))
    (resized_tells _ _ c.in_err-read_items.field-0.0 (goes (items c.args.constant (c.args.room - 1) no_vals p)) c.skip.new.self.source (ap length c.skip.ensures.same) (c.in_err-read_items.ensures.reads p)))

pub read_punctuated-returns-then-next_is-clause-reads : goal.read_punctuated-returns-then-next_is-clause-reads
read_punctuated-returns-then-next_is-clause-reads t c =
    let size = length c.args.cursor.now.text in
    let n : next_is 91 c.args.cursor.now.source ≡ true = grind (arith, common_steps) in
    let l : 0 < c.args.room = omega arith in
    λ p. opens_list size c.args.constant c.args.cursor.now.source c.args.room p l (comes_at 91 c.args.cursor.now.source n)
    ∙ ap (λ s. value_on size (goes (items c.args.constant (c.args.room - 1) no_vals p)) s) (sym c.in_ok-skip.ensures.source)
    ∙ same_value_course _ _ (goes (items c.args.constant (c.args.room - 1) no_vals p)) (put_alone (list (vals_of c.in_ok-read_items.field-0)) p) c.skip.new.self.source c.read_items.new.cursor.source (ap length c.skip.ensures.same) (c.in_ok-read_items.ensures.reads p)

pub read_punctuated-returns-in_err-read_fields-clause-reads : goal.read_punctuated-returns-in_err-read_fields-clause-reads
read_punctuated-returns-in_err-read_fields-clause-reads t c =
    let size = length c.args.cursor.now.text in
    let e = err_from_is_err_and c.from_residual-in_err-read_fields.result c.from_residual-in_err-read_fields.ensures.1 in
    let n : next_is 123 c.args.cursor.now.source ≡ true = grind (arith, common_steps) in
    let l : 0 < c.args.room = omega arith in
    λ p. rw (e.1, e.2) (tells_by c.in_err-read_fields.field-0.0 _ _
    (opens_object size c.args.constant c.args.cursor.now.source c.args.room p l (comes_at 123 c.args.cursor.now.source n)
    ∙ ap (λ s. value_on size (goes (members c.args.constant (c.args.room - 1) no_members p)) s) (sym c.in_ok-skip-2.ensures.source))
    (resized_tells _ _ c.in_err-read_fields.field-0.0 (goes (members c.args.constant (c.args.room - 1) no_members p)) c.skip-then-next_is-2.new.self.source (ap length c.skip-then-next_is-2.ensures.same) (c.in_err-read_fields.ensures.reads p)))

pub read_punctuated-returns-then-next_is-2-clause-reads : goal.read_punctuated-returns-then-next_is-2-clause-reads
read_punctuated-returns-then-next_is-2-clause-reads t c =
    let size = length c.args.cursor.now.text in
    let n : next_is 123 c.args.cursor.now.source ≡ true = grind (arith, common_steps) in
    let l : 0 < c.args.room = omega arith in
    λ p. opens_object size c.args.constant c.args.cursor.now.source c.args.room p l (comes_at 123 c.args.cursor.now.source n)
    ∙ ap (λ s. value_on size (goes (members c.args.constant (c.args.room - 1) no_members p)) s) (sym c.in_ok-skip-2.ensures.source)
    ∙ same_value_course _ _ (goes (members c.args.constant (c.args.room - 1) no_members p)) (put_alone (object (members_of c.in_ok-read_fields.field-0)) p) c.skip-then-next_is-2.new.self.source c.read_fields.new.cursor.source (ap length c.skip-then-next_is-2.ensures.same) (c.in_ok-read_fields.ensures.reads p)
