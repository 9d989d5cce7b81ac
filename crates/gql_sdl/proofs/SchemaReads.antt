-- A text that is read is a schema, and the one that it is.
use Rattle.std.proofs.Common.{◌≡◌, ◌<◌, ◌⊎◌, inl, inr, ℕ, ◌+◌, Bool, true, false, List, [], ◌∷◌, ◌++◌, map, length, Some, None, slice_index, Result, Ok, Err, IsUtf8, refl, sym, ap, subst, ◌∙◌}
use Rattle.std.specs.List.{AllByRecursion}
use Rattle.gql_syntax.specs.gql_lex.Lines.{place_at}
use Rattle.gql_syntax.specs.gql_lex.Sources.{Source, ended, faulty, token, lex_from}
use Rattle.gql_syntax.specs.gql_lex.Toks as tok
use Rattle.gql_syntax.specs.gql_lex.Toks.{Tok, tok_of_piece}
use Rattle.gql_syntax.specs.gql_ast.declared.fault.ParseFault.{ParseFault}
use Rattle.gql_syntax.specs.gql_ast.declared.fault.ParseFault.TheVariants as parse
use Rattle.gql_syntax.specs.gql_ast.declared.fault.SyntaxFault.{SyntaxFault}
use Rattle.gql_syntax.specs.gql_ast.declared.place.Placed.{Placed}
use Rattle.gql_syntax.specs.gql_ast.declared.schema.SchemaDef.{SchemaDef}
use Rattle.gql_syntax.specs.gql_ast.declared.schema.SchemaTree.{SchemaTree}
use Rattle.gql_syntax.proofs.Lying.{fault_lies}
use Rattle.gql_syntax.proofs.Reading.{tree_found, tree_only, parse_fault_found, read_text}
use Rattle.gql_syntax.specs.Answers.{LiesIn, fault_in}
use Rattle.gql_syntax.specs.FirstFault.{Spells, Shallow, Begins, Unexpected, TooDeep, FaultAhead, IsFirstFault}
use Rattle.gql_syntax.specs.Places.{Ahead, place_nodes}
use Rattle.gql_syntax.specs.Run.{unexpected, too_deep, code_of}
use Rattle.gql_syntax.specs.Spelling.{Mark}
use Rattle.gql_syntax.specs.Texts.{nesting_limit, NoText, FaultAtOffset, IsParseFault}
use Rattle.gql_syntax.specs.declared.fault.Fault.{Fault}
use Rattle.gql_syntax.specs.declared.fault.Fault.TheVariants.{Wrong, NoMemory}
use Rattle.gql_sdl.specs.Machine.{head, no_front, advance, finish}
use Rattle.gql_sdl.specs.Reads.{ReadSchema, Fails, Anywhere, start}
use Rattle.gql_sdl.specs.Schemas.{Description, Written, schema, scalar, object, interface, union, enum, input, directive, Described, NotEmpty, FormedWritten, written_of, definition_of, schemas, nodes_of, spell_implements, spell_members_part, spell_written, spell_described, spell_definitions}
use Rattle.gql_sdl.specs.Trees.{IsSchema}
use Rattle.gql_sdl.proofs.Seats.{Led, Neat}
use Rattle.gql_sdl.proofs.SchemaLaws.{neat, laws, FormedDescribed}
use Rattle.gql_sdl.proofs.States.{machine}

-- ---- no separator in front of nothing

abbrev leads : {A : Type 0} → Bool → List A → Bool
leads b [] = false
leads b (a ∷ all) = b

abbrev neatly : Written → Written
neatly (schema ds rs) = schema ds rs
neatly (scalar n ds) = scalar n ds
neatly (object n leading is ds fs) = object n (leads leading is) is ds fs
neatly (interface n leading is ds fs) = interface n (leads leading is) is ds fs
neatly (union n ds leading ms) = union n ds (leads leading ms) ms
neatly (enum n ds vs) = enum n ds vs
neatly (input n ds ws) = input n ds ws
neatly (directive n ws repeatable leading ls) = directive n ws repeatable leading ls

abbrev tidy : Described → Described
tidy d = record { description = d.description; written = neatly d.written }

leads-led : {A : Type 0} (b : Bool) (all : List A) → Led (leads b all) all
leads-led b [] = tt
leads-led true (a ∷ all) = tt
leads-led false (a ∷ all) = tt

neatly-neat : (w : Written) → Neat (neatly w)
neatly-neat (schema ds rs) = tt
neatly-neat (scalar n ds) = tt
neatly-neat (object n leading is ds fs) = leads-led leading is
neatly-neat (interface n leading is ds fs) = leads-led leading is
neatly-neat (union n ds leading ms) = leads-led leading ms
neatly-neat (enum n ds vs) = tt
neatly-neat (input n ds ws) = tt
neatly-neat (directive n ws repeatable leading ls) = tt

neatly-formed : (w : Written) → FormedWritten w → FormedWritten (neatly w)
neatly-formed (schema ds rs) h = h
neatly-formed (scalar n ds) h = h
neatly-formed (object n leading is ds fs) h = h
neatly-formed (interface n leading is ds fs) h = h
neatly-formed (union n ds leading ms) h = h
neatly-formed (enum n ds vs) h = h
neatly-formed (input n ds ws) h = h
neatly-formed (directive n ws repeatable leading ls) h = h

neatly-same : (w : Written) → written_of (neatly w) ≡ written_of w
neatly-same (schema ds rs) = refl
neatly-same (scalar n ds) = refl
neatly-same (object n leading is ds fs) = refl
neatly-same (interface n leading is ds fs) = refl
neatly-same (union n ds leading ms) = refl
neatly-same (enum n ds vs) = refl
neatly-same (input n ds ws) = refl
neatly-same (directive n ws repeatable leading ls) = refl

tidied-formed : (ds : List Described) → AllByRecursion (λ d. FormedWritten d.written) ds → AllByRecursion FormedDescribed (map tidy ds)
tidied-formed [] h = tt
tidied-formed (d ∷ ds) h = ((neatly-formed d.written h.0, neatly-neat d.written), tidied-formed ds h.1)

formed-schema : (v : List Described) → AllByRecursion FormedDescribed v → AllByRecursion (λ d. FormedWritten d.written) v
formed-schema [] h = tt
formed-schema (d ∷ ds) h = (h.0.0, formed-schema ds h.1)

tidied-some : (ds : List Described) → NotEmpty ds → NotEmpty (map tidy ds)
tidied-some [] h = h
tidied-some (d ∷ ds) h = tt

tidied-same : (ds : List Described) → map definition_of (map tidy ds) ≡ map definition_of ds
tidied-same [] = refl
tidied-same (d ∷ ds) = ap (λ x. x ∷ map definition_of (map tidy ds)) (neatly-same d.written) ∙ ap (λ xs. definition_of d ∷ xs) (tidied-same ds)

module _ {X : Type 0} (mark : Mark X) where
  implements-neat : (b : Bool) (ns : List (List ℕ)) (ts : List X) → spell_implements mark (leads b ns) ns ts ≡ spell_implements mark b ns ts
  implements-neat b [] ts = refl
  implements-neat b (n ∷ ns) ts = refl

  members-neat : (b : Bool) (ns : List (List ℕ)) (ts : List X) → spell_members_part mark (leads b ns) ns ts ≡ spell_members_part mark b ns ts
  members-neat b [] ts = refl
  members-neat b (n ∷ ns) ts = refl

  written-neat : (n : ℕ) (w : Written) (ts : List X) → spell_written mark n (neatly w) ts ≡ spell_written mark n w ts
  written-neat n (schema ds rs) ts = refl
  written-neat n (scalar m ds) ts = refl
  written-neat n (object m leading is ds fs) ts = simp implements-neat
  written-neat n (interface m leading is ds fs) ts = simp implements-neat
  written-neat n (union m ds leading ms) ts = simp members-neat
  written-neat n (enum m ds vs) ts = refl
  written-neat n (input m ds ws) ts = refl
  written-neat n (directive m ws repeatable leading ls) ts = refl

  described-neat : (above : ℕ) (d : Description) (w : Written) (ts : List X) → spell_described mark above d (neatly w) ts ≡ spell_described mark above d w ts
  described-neat above None w ts = written-neat (above + 1) w ts
  described-neat above (Some d) w ts = ap (λ xs. mark (tok.text d) 0 (above + 1) ∷ xs) (written-neat 0 w ts)

  definitions-neat : (above : ℕ) (ds : List Described) → spell_definitions mark above (map tidy ds) ≡ spell_definitions mark above ds
  definitions-neat above [] = refl
  definitions-neat above (d ∷ ds) =
      described-neat above d.description d.written (spell_definitions mark 0 (map tidy ds))
      ∙ ap (spell_described mark above d.description d.written) (definitions-neat 0 ds)

tokens-neat : (v : List Described) → schemas.tokens (map tidy v) ≡ schemas.tokens v
tokens-neat v = definitions-neat (λ t l n. t) 1 v

levels-neat : (v : List Described) → schemas.levels (map tidy v) ≡ schemas.levels v
levels-neat v = definitions-neat (λ t l n. l) 1 v

nodes-neat : (v : List Described) → nodes_of (map tidy v) ≡ nodes_of v
nodes-neat v = definitions-neat (λ t l n. n) 1 v

spells-neat : (ts : List Tok) (v : List Described) → Spells schemas ts v → Spells neat ts (map tidy v)
spells-neat ts v s = record { spelled = tokens-neat v ∙ s.spelled; formed = (tidied-some v s.formed.0, tidied-formed v s.formed.1) }

spells-any : (ts : List Tok) (v : List Described) → Spells neat ts v → Spells schemas ts v
spells-any ts v s = record { spelled = s.spelled; formed = (s.formed.0, formed-schema v s.formed.1) }

-- ---- the first fault by the one grammar is that by the other

begins-any : (limit : ℕ) (ts : List Tok) → Begins neat limit ts → Begins schemas limit ts
begins-any limit ts b = record { behind = b.behind; tree = b.tree; spells = spells-any (ts ++ b.behind) b.tree b.spells; shallow = b.shallow }

unexpected-any : (ts : List Tok) (t : Tok) → Unexpected neat ts t → Unexpected schemas ts t
unexpected-any ts t u behind v s = u behind (map tidy v) (spells-neat (ts ++ t ∷ behind) v s)

too_deep-any : (limit : ℕ) (ts : List Tok) (t : Tok) → TooDeep neat limit ts t → TooDeep schemas limit ts t
too_deep-any limit ts t d = record {
  behind = d.behind;
  tree = d.tree;
  spells = spells-any (ts ++ t ∷ d.behind) d.tree d.spells;
  deep = λ more v s. subst (λ ls. limit < slice_index ls (length ts)) (levels-neat v) (d.deep more (map tidy v) (spells-neat (ts ++ t ∷ more) v s));
}

ahead-any : (limit size : ℕ) (ts : List Tok) (rest : Source) (code at : ℕ) → FaultAhead neat limit size ts rest code at → FaultAhead schemas limit size ts rest code at
ahead-any limit size ts ended code at h = (h.0, h.1, λ v s. h.2 (map tidy v) (spells-neat ts v s))
ahead-any limit size ts (faulty c a) code at h = h
ahead-any limit size ts (token p rest) code at h = (h.0, on_case h.1)
  where
    on_case : ((code ≡ code_of unexpected) × Unexpected neat ts (tok_of_piece p)) ⊎ ((code ≡ code_of too_deep) × TooDeep neat limit ts (tok_of_piece p))
        → ((code ≡ code_of unexpected) × Unexpected schemas ts (tok_of_piece p)) ⊎ ((code ≡ code_of too_deep) × TooDeep schemas limit ts (tok_of_piece p))
    on_case (inl x) = inl (x.0, unexpected-any ts (tok_of_piece p) x.1)
    on_case (inr x) = inr (x.0, too_deep-any limit ts (tok_of_piece p) x.1)

first-any : (limit size : ℕ) (s : Source) (code at : ℕ) → IsFirstFault neat limit size s code at → IsFirstFault schemas limit size s code at
first-any limit size s code at f = record { read = f.read; rest = f.rest; leads = f.leads; begins = begins-any limit f.read f.begins; fault = ahead-any limit size f.read f.rest code at f.fault }

parse-any : (file : ℕ) (text : List ℕ) (f : ParseFault) → IsParseFault neat file text f → IsParseFault schemas file text f
parse-any file text parse.NoMemory h = tt
parse-any file text (parse.Syntax f) h = (h.0, on_case h.1)
  where
    on_case : NoText text f ⊎ FaultAtOffset neat text f → NoText text f ⊎ FaultAtOffset schemas text f
    on_case (inl x) = inl x
    on_case (inr x) = inr (record { at = x.at; utf8 = x.utf8; first = first-any nesting_limit (length text) (lex_from 0 text) f.code x.at x.first; line = x.line; column = x.column })

-- ---- the public call

-- the cursor at the start of a text
abbrev pub at_start : (file : ℕ) → List ℕ → Ahead
at_start file text = record { file = file; text = text; source = lex_from 0 text; places = [] }

pub schema-found : (file : ℕ) (text : List ℕ) (end : Ahead) (ds : List SchemaDef) → IsUtf8 text → ReadSchema (at_start file text) end ds
    → IsSchema file text (record { tree = record { definitions = ds }; places = end.places })
schema-found file text end ds u r =
    let t = tree_found neat machine laws nodes_of file text r.written end.places u (r.read (length text) refl) (sym r.nodes) in record {
      written = r.written;
      tree = record { utf8 = t.utf8; tokens = t.tokens; formed = (t.formed.0, formed-schema r.written t.formed.1); shallow = t.shallow; places = t.places };
      definitions = sym r.viewed;
    }

-- a schema of the text is read
tree-read : (file : ℕ) (text : List ℕ) (p : Placed SchemaTree) (s : IsSchema file text p) → read_text neat machine laws text ≡ Ok (map tidy s.written)
tree-read file text p s =
    tree_only neat machine laws nodes_of file text (map tidy s.written) p.places (record {
      utf8 = s.tree.utf8;
      tokens = s.tree.tokens ∙ ap (λ ts. Some ts) (sym (tokens-neat s.written));
      formed = (tidied-some s.written s.tree.formed.0, tidied-formed s.written s.tree.formed.1);
      shallow = subst (Shallow nesting_limit) (sym (levels-neat s.written)) s.tree.shallow;
      places = s.tree.places ∙ ap (λ ns. place_nodes file text [] ns (lex_from 0 text)) (sym (nodes-neat s.written));
    })

pub schema-only : (file : ℕ) (text : List ℕ) (end : Ahead) (ds : List SchemaDef) (p : Placed SchemaTree) → ReadSchema (at_start file text) end ds → IsSchema file text p
    → record { tree = record { definitions = ds }; places = end.places } ≡ p
schema-only file text end ds p r s =
    let both : Ok r.written ≡ Ok (map tidy s.written) = sym (r.read (length text) refl) ∙ tree-read file text p s in
    let same : r.written ≡ map tidy s.written = cc in
    let trees : ds ≡ p.tree.definitions = sym r.viewed ∙ ap (λ ws. map definition_of ws) same ∙ tidied-same s.written ∙ sym s.definitions in
    let places : end.places ≡ p.places =
    sym r.nodes ∙ ap (λ ws. place_nodes file text [] (nodes_of ws) (lex_from 0 text)) same ∙ ap (λ ns. place_nodes file text [] ns (lex_from 0 text)) (nodes-neat s.written) ∙ sym s.tree.places in
    λ i. record { tree = record { definitions = trees i }; places = places i }

-- a text with a fault is no schema
no-both : {A E : Type 0} (r : Result A E) (a : A) (e : E) → r ≡ Err e → r ≡ Ok a → ⊥
no-both r a e p q = absurd (cc)

pub fault-only : (file : ℕ) (text : List ℕ) (f : Fault) (p : Placed SchemaTree) → Fails {K = Unit {0}} Anywhere start (at_start file text) f → IsSchema file text p
    → fault_in file text f ≡ parse.NoMemory
fault-only file text (Wrong code at) p h s =
    absurd (no-both (read_text neat machine laws text) (map tidy s.written) (code, at) (h tt (length text) refl tt) (tree-read file text p s))
fault-only file text NoMemory p h s = refl

pub fault-found : (file : ℕ) (text : List ℕ) (f : Fault) → IsUtf8 text → Fails {K = Unit {0}} Anywhere start (at_start file text) f → IsParseFault schemas file text (fault_in file text f)
fault-found file text (Wrong code at) u h =
    let f : SyntaxFault = record { file = file; line = (place_at text at).line; column = (place_at text at).column; code = code } in
    parse-any file text (parse.Syntax f) (parse_fault_found neat machine laws file text f at u (h tt (length text) refl tt) refl refl refl)
fault-found file text NoMemory u h = tt

pub fault-lies : (file : ℕ) (text : List ℕ) (f : Fault) → IsUtf8 text → Fails {K = Unit {0}} Anywhere start (at_start file text) f → LiesIn text f
fault-lies file text (Wrong code at) u h = fault_lies (advance nesting_limit) finish text u (head no_front) (Wrong code at) (h tt (length text) refl tt)
fault-lies file text NoMemory u h = tt

-- a text has at most one tree
pub one-schema : (file : ℕ) (text : List ℕ) (p q : Placed SchemaTree) → IsSchema file text p → IsSchema file text q → p ≡ q
one-schema file text p q s z =
    let both : Ok (map tidy s.written) ≡ Ok (map tidy z.written) = sym (tree-read file text p s) ∙ tree-read file text q z in
    let same : map tidy s.written ≡ map tidy z.written = cc in
    let trees : p.tree.definitions ≡ q.tree.definitions =
    s.definitions ∙ sym (tidied-same s.written) ∙ ap (λ ws. map definition_of ws) same ∙ tidied-same z.written ∙ sym z.definitions in
    let places : p.places ≡ q.places =
    s.tree.places ∙ ap (λ ns. place_nodes file text [] ns (lex_from 0 text)) (sym (nodes-neat s.written) ∙ ap nodes_of same ∙ nodes-neat z.written) ∙ sym z.tree.places in
    λ i. record { tree = record { definitions = trees i }; places = places i }
