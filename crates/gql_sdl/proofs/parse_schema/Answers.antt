use Rattle.std.proofs.Common.{◌≡◌, IsUtf8, Ok, Err, inl, inr, sym, ap, subst, ◌∙◌}
use Rattle.gql_syntax.specs.gql_ast.declared.place.Placed.{Placed}
use Rattle.gql_syntax.specs.gql_ast.declared.schema.SchemaTree.{SchemaTree}
use Rattle.gql_sdl.specs.Trees.{IsSchema}
use Rattle.gql_syntax.specs.Answers.{LiesIn, fault_in}
use Rattle.gql_syntax.specs.Texts.{IsParseFault}
use Rattle.gql_sdl.specs.Reads.{Anywhere, Fails, ReadSchema, start}
use Rattle.gql_sdl.specs.Schemas.{schemas}
use Rattle.gql_sdl.proofs.SchemaReads.{at_start, schema-found, schema-only, fault-only, fault-found, fault-lies}
use Rattle.gql_syntax.proofs.Judging.{tells_text}
use Rattle.gql_sdl.proofs.parse_schema.Goals as goal

pub in_text-requires-clause-lies : goal.in_text-requires-clause-lies
in_text-requires-clause-lies c =
    let t : (c.in_ok-text.text.now ≡ c.args.bytes.now) × IsUtf8 c.args.bytes.now = (c.in_ok-text.ensures.text, c.in_ok-text.ensures.utf8) in
    let f : Fails {K = Unit {0}} Anywhere start (at_start c.args.file c.args.bytes.now) c.in-Err.fault =
    subst (λ a. Fails {K = Unit {0}} Anywhere start a c.in-Err.fault) (c.new-cursor.ensures ∙ ap (at_start c.args.file) t.0) c.in-Err.ensures.reads in
    subst (λ s. LiesIn s c.in-Err.fault) (sym t.0) (fault-lies c.args.file c.args.bytes.now c.in-Err.fault t.1 f)

pub returns-in-Ok-clause-found : goal.returns-in-Ok-clause-found
returns-in-Ok-clause-found c =
    let t : (c.in_ok-text.text.now ≡ c.args.bytes.now) × IsUtf8 c.args.bytes.now = (c.in_ok-text.ensures.text, c.in_ok-text.ensures.utf8) in
    let end = c.read_definitions.new.cursor in
    let ds = c.in-Ok.definitions in
    let r : ReadSchema (at_start c.args.file c.args.bytes.now) end ds =
    subst (λ a. ReadSchema a end ds) (c.new-cursor.ensures ∙ ap (at_start c.args.file) t.0) c.in-Ok.ensures.reads in
    subst (λ ps. IsSchema c.args.file c.args.bytes.now (record { tree = record { definitions = ds }; places = ps })) (sym c.into_places.ensures)
    (schema-found c.args.file c.args.bytes.now end ds t.1 r)

pub returns-in-Ok-clause-only : goal.returns-in-Ok-clause-only
returns-in-Ok-clause-only c =
    let t : (c.in_ok-text.text.now ≡ c.args.bytes.now) × IsUtf8 c.args.bytes.now = (c.in_ok-text.ensures.text, c.in_ok-text.ensures.utf8) in
    let end = c.read_definitions.new.cursor in
    let ds = c.in-Ok.definitions in
    let r : ReadSchema (at_start c.args.file c.args.bytes.now) end ds =
    subst (λ a. ReadSchema a end ds) (c.new-cursor.ensures ∙ ap (at_start c.args.file) t.0) c.in-Ok.ensures.reads in
    λ p s. inr (ap (λ x. Ok x) (ap (λ ps. record { tree = record { definitions = ds }; places = ps }) c.into_places.ensures ∙ schema-only c.args.file c.args.bytes.now end ds p r s))

pub returns-in-Err-clause-only : goal.returns-in-Err-clause-only
returns-in-Err-clause-only c =
    let t : (c.in_ok-text.text.now ≡ c.args.bytes.now) × IsUtf8 c.args.bytes.now = (c.in_ok-text.ensures.text, c.in_ok-text.ensures.utf8) in
    let f : Fails {K = Unit {0}} Anywhere start (at_start c.args.file c.args.bytes.now) c.in-Err.fault =
    subst (λ a. Fails {K = Unit {0}} Anywhere start a c.in-Err.fault) (c.new-cursor.ensures ∙ ap (at_start c.args.file) t.0) c.in-Err.ensures.reads in
    λ p s. inl (ap (λ x. Err x) (c.in_text.ensures ∙ ap (λ b. fault_in c.args.file b c.in-Err.fault) t.0 ∙ fault-only c.args.file c.args.bytes.now c.in-Err.fault p f s))

pub returns-in-Err-clause-fault : goal.returns-in-Err-clause-fault
returns-in-Err-clause-fault c =
    let t : (c.in_ok-text.text.now ≡ c.args.bytes.now) × IsUtf8 c.args.bytes.now = (c.in_ok-text.ensures.text, c.in_ok-text.ensures.utf8) in
    let f : Fails {K = Unit {0}} Anywhere start (at_start c.args.file c.args.bytes.now) c.in-Err.fault =
    subst (λ a. Fails {K = Unit {0}} Anywhere start a c.in-Err.fault) (c.new-cursor.ensures ∙ ap (at_start c.args.file) t.0) c.in-Err.ensures.reads in
    subst (IsParseFault schemas c.args.file c.args.bytes.now) (sym (c.in_text.ensures ∙ ap (λ b. fault_in c.args.file b c.in-Err.fault) t.0))
    (fault-found c.args.file c.args.bytes.now c.in-Err.fault t.1 f)

pub returns-in-Err-clause-text : goal.returns-in-Err-clause-text
returns-in-Err-clause-text c =
    let t : (c.in_ok-text.text.now ≡ c.args.bytes.now) × IsUtf8 c.args.bytes.now = (c.in_ok-text.ensures.text, c.in_ok-text.ensures.utf8) in
    let f : Fails {K = Unit {0}} Anywhere start (at_start c.args.file c.args.bytes.now) c.in-Err.fault =
    subst (λ a. Fails {K = Unit {0}} Anywhere start a c.in-Err.fault) (c.new-cursor.ensures ∙ ap (at_start c.args.file) t.0) c.in-Err.ensures.reads in
    tells_text schemas (Placed SchemaTree) c.args.file c.args.bytes.now c.in_text.result t.1
    (subst (IsParseFault schemas c.args.file c.args.bytes.now) (sym (c.in_text.ensures ∙ ap (λ b. fault_in c.args.file b c.in-Err.fault) t.0))
    (fault-found c.args.file c.args.bytes.now c.in-Err.fault t.1 f))
