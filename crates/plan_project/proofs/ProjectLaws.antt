-- Files are one project at most, or have one fault at most, and not both.
use Rattle.std.proofs.Common.{◌≡◌, ◌⊎◌, ◌==◌, ℕ, suc, cond, List, [], ◌∷◌, Option, Some, None, Result, Ok, Err, sym, ap, subst, inl, inr, ◌∙◌}
use Rattle.plan_read.specs.doc_merge.declared.fault.PlaceFault.{PlaceFault}
use Rattle.plan_ir.specs.gql_ast.declared.document.Document.{Document}
use Rattle.plan_ir.specs.gql_ast.declared.fault.ParseFault.{ParseFault}
use Rattle.plan_ir.specs.gql_ast.declared.fault.ParseFault.TheVariants.{Syntax, NoMemory as NoRoom}
use Rattle.plan_ir.specs.gql_ast.declared.fault.SyntaxFault.{SyntaxFault}
use Rattle.plan_ir.specs.gql_ast.declared.place.FilePlace.{FilePlace}
use Rattle.plan_ir.specs.gql_ast.declared.place.Placed.{Placed}
use Rattle.plan_ir.specs.gql_ast.declared.schema.SchemaTree.{SchemaTree}
use Rattle.plan_ir.specs.gql_graph.Rules.{first_broken}
use Rattle.text_places.specs.gql_parse.Documents.{documents, nodes_of}
use Rattle.text_places.specs.gql_parse.Trees.{IsDocument}
use Rattle.text_places.specs.gql_sdl.Schemas as sdl
use Rattle.text_places.specs.gql_sdl.Trees.{IsSchema}
use Rattle.plan_ir.proofs.gql_syntax_laws.OneFault.{no_parse_fault, one_parse_fault}
use Rattle.plan_ir.specs.gql_syntax.FirstFault.{Grammar}
use Rattle.plan_ir.specs.gql_syntax.Texts.{IsParseFault}
use Rattle.plan_project.proofs.DocumentLaws.{only_of}
use Rattle.plan_project.specs.Faults.{place_at, fault_at, IsFound}
use Rattle.plan_project.proofs.RuleLaws.{all_nodes}
use Rattle.plan_project.specs.Expansions.{merge_fault, size_rules}
use Rattle.relay_dirs.specs.relay_rules.RelayRules.{document_rules}
use Rattle.plan_project.specs.Projects.{AreDocuments, AreTrees, IsAcceptedProject, node_rules, syntax_rule, IsSyntaxOf, IsDocumentsFault, IsTextFault, Breaks, IsMergeFault, Break}
use Rattle.plan_project.specs.Verdicts.{IsTheProject, IsTheFault, IsRefusal, Files, texts_of, AreTheProject, HaveTheFault, AreOnlyDocuments, AreNoDocuments, IsFaultOf}
use Rattle.plan_project.specs.declared.compiling.CompileFault.{CompileFault}
use Rattle.plan_project.specs.declared.compiling.CompileFault.TheVariants.{Refused, NoMemory}
use Rattle.plan_ir.specs.schema_rules.Checked.{IsSound}
use Rattle.plan_ir.specs.schema_types.DocumentRules.{Meet, places_of}
use Rattle.plan_ir.specs.schema_tables.Types.{Text, Defs}
use Rattle.plan_project.specs.declared.fault.ProjectFault.{ProjectFault}
use Rattle.plan_ir.specs.schema_rules.declared.fault.Rule.{Rule}
use Rattle.plan_ir.specs.schema_rules.declared.fault.Rule.TheVariants as R

-- ---- faults of texts

abbrev rule_from : ℕ → Rule
rule_from c =
    cond (c == 1) R.L1 (cond (c == 2) R.L2 (cond (c == 3) R.L3 (cond (c == 4) R.L4 (cond (c == 5) R.L5 (cond (c == 6) R.L6 (cond (c == 7) R.L7 R.L8))))))

is_rule_from : (c : ℕ) (r : Rule) → syntax_rule c r → r ≡ rule_from c
is_rule_from c R.L1 h = ap rule_from (sym h)
is_rule_from c R.L2 h = ap rule_from (sym h)
is_rule_from c R.L3 h = ap rule_from (sym h)
is_rule_from c R.L4 h = ap rule_from (sym h)
is_rule_from c R.L5 h = ap rule_from (sym h)
is_rule_from c R.L6 h = ap rule_from (sym h)
is_rule_from c R.L7 h = ap rule_from (sym h)
is_rule_from c R.L8 h = ap rule_from (sym h)
is_rule_from c r h = absurd h

one_of_text : {V : Type 0} (g : Grammar V) (n : ℕ) (text : Text) (s r : SyntaxFault) (f h : ProjectFault) → IsParseFault g n text (Syntax s) → IsSyntaxOf s f
    → IsParseFault g n text (Syntax r) → IsSyntaxOf r h → f ≡ h
one_of_text g n text s r f h x p y q =
    let e = one_parse_fault g n text s r x y in
    λ i. record {
      file = (p.file ∙ e.0 ∙ sym q.file) i;
      line = (p.line ∙ e.1 ∙ sym q.line) i;
      column = (p.column ∙ e.2 ∙ sym q.column) i;
      rule = (is_rule_from s.code f.rule p.rule ∙ ap rule_from e.3 ∙ sym (is_rule_from r.code h.rule q.rule)) i;
    }

document_or_fault : (n : ℕ) (text : Text) (p : Placed Document) (s : SyntaxFault) → IsDocument n text p → IsParseFault documents n text (Syntax s) → ⊥
document_or_fault n text p s d f = no_parse_fault documents nodes_of n text d.written p.places s d.tree f

schema_or_fault : (n : ℕ) (text : Text) (p : Placed SchemaTree) (s : SyntaxFault) → IsSchema n text p → IsParseFault sdl.schemas n text (Syntax s) → ⊥
schema_or_fault n text p s d f = no_parse_fault sdl.schemas sdl.nodes_of n text d.written p.places s d.tree f

one_documents_fault : (n : ℕ) (texts : List Text) (f h : ProjectFault) → IsDocumentsFault n texts f → IsDocumentsFault n texts h → f ≡ h
one_documents_fault n [] f h x y = absurd x
one_documents_fault n (t ∷ ts) f h x y = elim x [
  | inl a ↦ elim y [ inl b ↦ one_of_text documents n t a.0 b.0 f h a.1 a.2 b.1 b.2 | inr b ↦ absurd (document_or_fault n t b.0 a.0 b.1 a.1) ]
  | inr a ↦ elim y [ inl b ↦ absurd (document_or_fault n t a.0 b.0 a.1 b.1) | inr b ↦ one_documents_fault (suc n) ts f h a.2 b.2 ]
]

no_documents : (n : ℕ) (texts : List Text) (ps : List (Placed Document)) (f : ProjectFault) → AreDocuments n texts ps → IsDocumentsFault n texts f → ⊥
no_documents n [] ps f d x = x
no_documents n (t ∷ ts) [] f d x = d
no_documents n (t ∷ ts) (p ∷ ps) f d x = elim x [
  | inl a ↦ document_or_fault n t p a.0 d.0 a.1
  | inr a ↦ no_documents (suc n) ts ps f d.1 a.2
]

one_text_fault : (schema : Text) (texts : List Text) (f h : ProjectFault) → IsTextFault schema texts f → IsTextFault schema texts h → f ≡ h
one_text_fault schema texts f h x y = elim x [
  | inl a ↦ elim y [ inl b ↦ one_of_text sdl.schemas 0 schema a.0 b.0 f h a.1 a.2 b.1 b.2 | inr b ↦ absurd (schema_or_fault 0 schema b.0 a.0 b.1 a.1) ]
  | inr a ↦ elim y [ inl b ↦ absurd (schema_or_fault 0 schema a.0 b.0 a.1 b.1) | inr b ↦ one_documents_fault 1 texts f h a.2 b.2 ]
]

no_trees : (schema : Text) (texts : List Text) (tree : Placed SchemaTree) (ps : List (Placed Document)) (f : ProjectFault) → AreTrees schema texts tree ps → IsTextFault schema texts f → ⊥
no_trees schema texts tree ps f t x = elim x [
  | inl a ↦ schema_or_fault 0 schema tree a.0 t.schema_is a.1
  | inr a ↦ no_documents 1 texts ps f t.documents_are a.2
]

-- ---- faults of rules

one_found : (found : Option (Rule × ℕ)) (places : List FilePlace) (f h : ProjectFault) → IsFound found places f → IsFound found places h → f ≡ h
one_found found places f h x y =
    let first : Some (x.rule, x.node) ≡ Some (y.rule, y.node) = sym x.first ∙ y.first in
    let e : ◌≡◌ {A = Rule × ℕ} (x.rule, x.node) (y.rule, y.node) = cc first in
    let rules : x.rule ≡ y.rule = ap (λ (k : Rule × ℕ). k.0) e in
    let nodes : x.node ≡ y.node = ap (λ (k : Rule × ℕ). k.1) e in
    let there : Some x.at.place ≡ Some y.at.place = sym x.at.there ∙ ap (place_at places) nodes ∙ y.at.there in
    let same : x.at.place ≡ y.at.place = cc there in
    x.at.fault ∙ ap (fault_at x.at.place) rules ∙ ap (λ (p : FilePlace). fault_at p y.rule) same ∙ sym y.at.fault

none_found : (found : Option (Rule × ℕ)) (places : List FilePlace) (f : ProjectFault) → found ≡ None → IsFound found places f → ⊥
none_found found places f none x = let e = sym none ∙ x.first in cc

-- ---- faults of documents, and of what their operations and fragments become

-- all rules hold
abbrev pub MeetAll : Defs → List (Placed Document) → Type 0
MeetAll defs ps = Meet document_rules defs ps × (first_broken (size_rules defs ps) ≡ None) × (merge_fault defs ps ≡ None)

module _ (defs : Defs) (ps : List (Placed Document)) where
  one_merge : (f h : ProjectFault) → IsMergeFault defs ps f → IsMergeFault defs ps h → f ≡ h
  one_merge f h x y =
      let e : Some x.found ≡ Some y.found = sym x.first ∙ y.first in
      let same : x.found ≡ y.found = cc e in
      x.fault ∙ ap (λ (g : PlaceFault). fault_at g.place g.rule) same ∙ sym y.fault

  one_breaks : (f h : ProjectFault) → Break defs ps f → Break defs ps h → f ≡ h
  one_breaks f h x y = elim x [
    | inl a ↦ elim y [ inl b ↦ one_found (first_broken (node_rules defs ps)) (places_of ps) f h a b | inr b ↦ absurd (none_found (first_broken (node_rules defs ps)) (places_of ps) f b.met a) ]
    | inr a ↦ elim y [ inl b ↦ absurd (none_found (first_broken (node_rules defs ps)) (places_of ps) h a.met b) | inr b ↦ one_merge f h a b ]
  ]

  none_breaks : (f : ProjectFault) → MeetAll defs ps → Break defs ps f → ⊥
  none_breaks f m x = elim x [
    | inl a ↦ none_found (first_broken (node_rules defs ps)) (places_of ps) f (all_nodes defs ps m.0 ∙ m.1) a
    | inr a ↦ let e = sym m.2 ∙ a.first in cc
  ]

-- ---- what is found

-- a text has a fault
found_in_text : (schema : Text) (texts : List Text) (f : ProjectFault) → IsTextFault schema texts f → IsTheFault schema texts f
found_in_text schema texts f t = record {
  is = inl t;
  only = λ other x. elim x [
    | inl u ↦ one_text_fault schema texts other f u t
    | inr u ↦ absurd (elim u [
      | inl v ↦ no_trees schema texts v.tree v.ps f v.trees t
      | inr v ↦ no_trees schema texts v.tree v.ps f v.trees t
    ])
  ];
  none = λ defs ps k. no_trees schema texts k.tree ps f k.trees t;
}

-- the schema is no text of a schema, or a document is none of a document
pub schema_refused : (bytes schema : Text) (texts : List Text) (fault : ParseFault) (r : CompileFault) → bytes ≡ schema → IsParseFault sdl.schemas 0 bytes fault
    → IsFaultOf fault r → IsRefusal schema texts r
schema_refused bytes schema texts (Syntax s) (Refused f) e x y = found_in_text schema texts f (inl (s, subst (λ b. IsParseFault sdl.schemas 0 b (Syntax s)) e x, y))
schema_refused bytes schema texts (Syntax s) NoMemory e x y = tt
schema_refused bytes schema texts NoRoom (Refused f) e x y = absurd y
schema_refused bytes schema texts NoRoom NoMemory e x y = tt

pub documents_refused : (bytes schema : Text) (texts : List Text) (p : Placed SchemaTree) (fault : ParseFault) (r : CompileFault) → bytes ≡ schema → IsSchema 0 bytes p
    → AreNoDocuments 1 texts fault → IsFaultOf fault r → IsRefusal schema texts r
documents_refused bytes schema texts p (Syntax s) (Refused f) e d x y = found_in_text schema texts f (inr (p, subst (λ b. IsSchema 0 b p) e d, x.1 f y))
documents_refused bytes schema texts p (Syntax s) NoMemory e d x y = tt
documents_refused bytes schema texts p NoRoom (Refused f) e d x y = absurd y
documents_refused bytes schema texts p NoRoom NoMemory e d x y = tt

-- the texts are these trees, and no others
pub record OnlyTrees (schema : Text) (texts : List Text) (tree : Placed SchemaTree) (ps : List (Placed Document)) : Type 0 where
  pub trees : AreTrees schema texts tree ps
  pub only_schema : (q : Placed SchemaTree) → IsSchema 0 schema q → q ≡ tree
  pub only_documents : (qs : List (Placed Document)) → AreDocuments 1 texts qs → qs ≡ ps

pub only_trees : (bytes schema : Text) (texts : List Text) (r : Result (Placed SchemaTree) ParseFault) (tree : Placed SchemaTree) (ps : List (Placed Document))
    → bytes ≡ schema → r ≡ Ok tree → IsSchema 0 bytes tree → ((p : Placed SchemaTree) → IsSchema 0 bytes p → (r ≡ Err NoRoom) ⊎ (r ≡ Ok p))
    → AreOnlyDocuments 1 texts ps → OnlyTrees schema texts tree ps
only_trees bytes schema texts r tree ps e is found only a =
    subst (λ b. OnlyTrees b texts tree ps) e (record {
      trees = record { schema_is = found; documents_are = a.are };
      only_schema = only_of (IsSchema 0 bytes) r tree NoRoom only is;
      only_documents = a.only;
    })

module _ (schema : Text) (texts : List Text) (tree : Placed SchemaTree) (ps : List (Placed Document)) (t : OnlyTrees schema texts tree ps) where
  abbrev defs : Defs
  defs = tree.tree.definitions

  no_text : (f : ProjectFault) → IsTextFault schema texts f → ⊥
  no_text f x = no_trees schema texts tree ps f t.trees x

  -- ---- what holds of other trees of these texts holds of these

  sound_here : (q : Placed SchemaTree) (qs : List (Placed Document)) → AreTrees schema texts q qs → IsSound q.tree.definitions → IsSound defs
  sound_here q qs a h = subst (λ (x : Placed SchemaTree). IsSound x.tree.definitions) (t.only_schema q a.schema_is) h

  breaks_here : (q : Placed SchemaTree) (qs : List (Placed Document)) (f : ProjectFault) → AreTrees schema texts q qs → Breaks q f → Breaks tree f
  breaks_here q qs f a h = subst (λ x. Breaks x f) (t.only_schema q a.schema_is) h

  meet_here : (q : Placed SchemaTree) (qs : List (Placed Document)) → AreTrees schema texts q qs → MeetAll q.tree.definitions qs → MeetAll defs ps
  meet_here q qs a h =
      subst (λ (x : Placed SchemaTree). MeetAll x.tree.definitions ps) (t.only_schema q a.schema_is)
      (subst (λ xs. MeetAll q.tree.definitions xs) (t.only_documents qs a.documents_are) h)

  rule_here : (q : Placed SchemaTree) (qs : List (Placed Document)) (f : ProjectFault) → AreTrees schema texts q qs → Break q.tree.definitions qs f
      → Break defs ps f
  rule_here q qs f a h =
      subst (λ (x : Placed SchemaTree). Break x.tree.definitions ps f) (t.only_schema q a.schema_is)
      (subst (λ xs. Break q.tree.definitions xs f) (t.only_documents qs a.documents_are) h)

  -- ---- one verdict at most

  no_break : (f : ProjectFault) → IsSound defs → Breaks tree f → ⊥
  no_break f s b = none_found _ tree.places f s b

  one_break : (f h : ProjectFault) → Breaks tree f → Breaks tree h → f ≡ h
  one_break f h x y = one_found _ tree.places f h x y

  no_rule : (f : ProjectFault) → MeetAll defs ps → Break defs ps f → ⊥
  no_rule f m b = none_breaks defs ps f m b

  one_rule : (f h : ProjectFault) → Break defs ps f → Break defs ps h → f ≡ h
  one_rule f h x y = one_breaks defs ps f h x y

  -- the schema breaks a rule
  pub found_in_schema : (f : ProjectFault) → Breaks tree f → IsTheFault schema texts f
  found_in_schema f breaks = record {
    is = inr (inl (record { tree = tree; ps = ps; trees = t.trees; breaks = breaks }));
    only = λ other x. elim x [
      | inl u ↦ absurd (no_text other u)
      | inr u ↦ elim u [
        | inl v ↦ one_break other f (breaks_here v.tree v.ps other v.trees v.breaks) breaks
        | inr v ↦ absurd (no_break f (sound_here v.tree v.ps v.trees v.sound) breaks)
      ]
    ];
    none = λ own qs k. no_break f (sound_here k.tree qs k.trees (subst IsSound k.says k.sound)) breaks;
  }

  found_in_documents : (f : ProjectFault) → IsSound defs → Break defs ps f → IsTheFault schema texts f
  found_in_documents f sound breaks = record {
    is = inr (inr (record { tree = tree; ps = ps; trees = t.trees; sound = sound; breaks = breaks }));
    only = λ other x. elim x [
      | inl u ↦ absurd (no_text other u)
      | inr u ↦ elim u [
        | inl v ↦ absurd (no_break other sound (breaks_here v.tree v.ps other v.trees v.breaks))
        | inr v ↦ one_rule other f (rule_here v.tree v.ps other v.trees v.breaks) breaks
      ]
    ];
    none = λ own qs k. no_rule f (meet_here k.tree qs k.trees (subst (λ d. MeetAll d qs) k.says (k.meet, k.sizes, k.merges))) breaks;
  }

  -- the documents break a rule at a node, or what they become breaks one at a place, by the definitions that are kept
  pub found_in_rules : (own : Defs) (f : ProjectFault) → own ≡ defs → IsSound own → Break own ps f → IsTheFault schema texts f
  found_in_rules own f same sound breaks = found_in_documents f (subst IsSound same sound) (subst (λ d. Break d ps f) same breaks)

  -- all rules hold
  pub found_project : (own : Defs) → own ≡ defs → IsSound own → Meet document_rules own ps → first_broken (size_rules own ps) ≡ None → merge_fault own ps ≡ None
      → IsTheProject schema texts own ps
  found_project own same sound meet sizes merges = record {
    is = record { tree = tree; trees = t.trees; says = same; sound = sound; meet = meet; sizes = sizes; merges = merges };
    only = λ other qs k.
        let says : other ≡ own = k.says ∙ ap (λ (x : Placed SchemaTree). x.tree.definitions) (t.only_schema k.tree k.trees.schema_is) ∙ sym same in
        let are : qs ≡ ps = t.only_documents qs k.trees.documents_are in
        λ i. (says i, are i);
    sound = λ f x. elim x [
      | inl u ↦ no_text f u
      | inr u ↦ elim u [
        | inl v ↦ no_break f (subst IsSound same sound) (breaks_here v.tree v.ps f v.trees v.breaks)
        | inr v ↦ no_rule f (subst (λ d. MeetAll d ps) same (meet, sizes, merges)) (rule_here v.tree v.ps f v.trees v.breaks)
      ]
    ];
  }

-- ---- files

-- the first file is the schema
pub project_of_files : (files : Files) (schema : Text × Text) (rest : Files) (defs : Defs) (ps : List (Placed Document)) → files ≡ schema ∷ rest
    → IsTheProject schema.1 (texts_of rest) defs ps → AreTheProject files defs ps
project_of_files files schema rest defs ps e h = subst (λ fs. AreTheProject fs defs ps) (sym e) h

pub fault_of_files : (files : Files) (schema : Text × Text) (rest : Files) (fault : CompileFault) → files ≡ schema ∷ rest
    → IsRefusal schema.1 (texts_of rest) fault → HaveTheFault files fault
fault_of_files files schema rest fault e h = subst (λ fs. HaveTheFault fs fault) (sym e) h

-- ---- the project

-- the texts' project is accepted
pub accepted_project : (schema : Text) (texts : List Text) (defs : Defs) (ps : List (Placed Document)) → IsTheProject schema texts defs ps → IsAcceptedProject defs ps
accepted_project schema texts own ps h = record { schema = schema; texts = texts; accepted = h.is }
