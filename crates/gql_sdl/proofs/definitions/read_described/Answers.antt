use Rattle.std.proofs.Common.{◌≡◌, Some, codes, refl, sym, ap, ◌∙◌}
use Rattle.gql_sdl.specs.Machine as machine
use Rattle.gql_sdl.proofs.DefinitionReads as D
use Rattle.gql_sdl.proofs.definitions.read_described.Goals as goal
use Rattle.std.proofs.Common.{None, subst}
use Rattle.gql_sdl.proofs.Spellings.{same_word}

pub returns-in_default-clause-reads : goal.returns-in_default-clause-reads
returns-in_default-clause-reads c =
    let none = c.in_default.ensures.none refl in
    rw c.fault.ensures (D.no-definition c.args.cursor.now (λ n e. let h : None ≡ Some n = sym none ∙ e in absurd (cc)))

pub returns-clause-reads : goal.returns-clause-reads
returns-clause-reads c =
    let came = c.in-Some.ensures.some in
    rw c.fault-2.ensures (D.no-definition c.args.cursor.now (λ n e.
    let both : Some c.in-Some.word.now ≡ Some n = sym came ∙ e in
    let same : c.in-Some.word.now ≡ n = cc in
    subst (λ m. machine.word_of m ≡ None) same (D.unknown-word c.in-Some.word.now c.if-eq.ensures c.if-eq-2.ensures c.if-eq-3.ensures c.if-eq-4.ensures c.if-eq-5.ensures c.if-eq-6.ensures c.if-eq-7.ensures c.if-eq-8.ensures)))

pub returns-then-eq-clause-reads : goal.returns-then-eq-clause-reads
returns-then-eq-clause-reads c =
    D.begun-reads (codes "schema") c.args.nodes c.args.cursor.now c.read_schema.new.cursor c.read_schema.result
    (c.in-Some.ensures.some ∙ ap (λ w. Some w) (same_word c.in-Some.word.now (codes "schema") (sym c.if-eq.ensures))) c.read_schema.ensures.reads

pub returns-then-eq-2-clause-reads : goal.returns-then-eq-2-clause-reads
returns-then-eq-2-clause-reads c =
    D.begun-reads (codes "scalar") c.args.nodes c.args.cursor.now c.read_scalar.new.cursor c.read_scalar.result
    (c.in-Some.ensures.some ∙ ap (λ w. Some w) (same_word c.in-Some.word.now (codes "scalar") (sym c.if-eq-2.ensures))) c.read_scalar.ensures.reads

pub returns-then-eq-3-clause-reads : goal.returns-then-eq-3-clause-reads
returns-then-eq-3-clause-reads c =
    D.begun-reads (codes "type") c.args.nodes c.args.cursor.now c.read_object.new.cursor c.read_object.result
    (c.in-Some.ensures.some ∙ ap (λ w. Some w) (same_word c.in-Some.word.now (codes "type") (sym c.if-eq-3.ensures))) c.read_object.ensures.reads

pub returns-then-eq-4-clause-reads : goal.returns-then-eq-4-clause-reads
returns-then-eq-4-clause-reads c =
    D.begun-reads (codes "interface") c.args.nodes c.args.cursor.now c.read_interface.new.cursor c.read_interface.result
    (c.in-Some.ensures.some ∙ ap (λ w. Some w) (same_word c.in-Some.word.now (codes "interface") (sym c.if-eq-4.ensures))) c.read_interface.ensures.reads

pub returns-then-eq-5-clause-reads : goal.returns-then-eq-5-clause-reads
returns-then-eq-5-clause-reads c =
    D.begun-reads (codes "union") c.args.nodes c.args.cursor.now c.read_union.new.cursor c.read_union.result
    (c.in-Some.ensures.some ∙ ap (λ w. Some w) (same_word c.in-Some.word.now (codes "union") (sym c.if-eq-5.ensures))) c.read_union.ensures.reads

pub returns-then-eq-6-clause-reads : goal.returns-then-eq-6-clause-reads
returns-then-eq-6-clause-reads c =
    D.begun-reads (codes "enum") c.args.nodes c.args.cursor.now c.read_enum.new.cursor c.read_enum.result
    (c.in-Some.ensures.some ∙ ap (λ w. Some w) (same_word c.in-Some.word.now (codes "enum") (sym c.if-eq-6.ensures))) c.read_enum.ensures.reads

pub returns-then-eq-7-clause-reads : goal.returns-then-eq-7-clause-reads
returns-then-eq-7-clause-reads c =
    D.begun-reads (codes "input") c.args.nodes c.args.cursor.now c.read_input_object.new.cursor c.read_input_object.result
    (c.in-Some.ensures.some ∙ ap (λ w. Some w) (same_word c.in-Some.word.now (codes "input") (sym c.if-eq-7.ensures))) c.read_input_object.ensures.reads

pub returns-then-eq-8-clause-reads : goal.returns-then-eq-8-clause-reads
returns-then-eq-8-clause-reads c =
    D.begun-reads (codes "directive") c.args.nodes c.args.cursor.now c.read_directive_definition.new.cursor c.read_directive_definition.result
    (c.in-Some.ensures.some ∙ ap (λ w. Some w) (same_word c.in-Some.word.now (codes "directive") (sym c.if-eq-8.ensures))) c.read_directive_definition.ensures.reads

pub read_schema-requires : goal.read_schema-requires
read_schema-requires c = c.in-Some.ensures.some ∙ ap (λ w. Some w) (same_word c.in-Some.word.now (codes "schema") (sym c.if-eq.ensures))
