-- Definitions that were read one behind the other.
use Rattle.std.proofs.Common.{◌≡◌, ◌≢◌, ℕ, List, [], ◌∷◌, ◌++◌, map, inl, inr, refl, sym, ap, ◌∙◌}
use Rattle.gql_syntax.specs.gql_lex.Sources.{ended}
use Rattle.gql_syntax.specs.gql_ast.declared.document.Definition.{Definition}
use Rattle.std.proofs.lemmas.List.{map-append}
use Rattle.gql_parse.specs.Documents.{Written, definition_of, spell_definition, spell_definitions}
use Rattle.gql_parse.specs.Machine.{between}
use Rattle.gql_parse.specs.Reads.{run_on, Read, Fails, ReadDocument, behind_definition}
use Rattle.gql_syntax.specs.Answers.{node_count}
use Rattle.gql_syntax.specs.Places.{Ahead, lay}
use Rattle.gql_syntax.specs.Reads.{Anywhere, MayDefine}
use Rattle.gql_syntax.specs.declared.fault.Fault.{Fault}
use Rattle.gql_parse.proofs.Passing.{Passed, at_start, pass-as, pass-read, fails_in}

-- the nodes of the definitions, and then those that are given
abbrev pub nodes_before : (first : ℕ) → List Written → List ℕ → List ℕ
nodes_before first [] ns = ns
nodes_before first (w ∷ ws) ns = spell_definition node_count first w (nodes_before 0 ws ns)

nodes_before-push : (first : ℕ) (w v : Written) (ws : List Written) (ns : List ℕ) → nodes_before first (w ∷ ws ++ v ∷ []) ns ≡ nodes_before first (w ∷ ws) (spell_definition node_count 0 v ns)
nodes_before-push first w v [] ns = refl
nodes_before-push first w v (x ∷ ws) ns = ap (λ r. spell_definition node_count first w r) (nodes_before-push 0 x v ws ns)

nodes_before-all : (first : ℕ) (ws : List Written) → nodes_before first ws [] ≡ spell_definitions node_count first ws
nodes_before-all first [] = refl
nodes_before-all first (w ∷ ws) = ap (λ r. spell_definition node_count first w r) (nodes_before-all 0 ws)

-- at least one was read
pub record SoFar (old new : Ahead) (ds : List Definition) : Type 0 where
  pub first : Written
  pub more : List Written
  pub definitions : map definition_of (first ∷ more) ≡ ds
  pub passed : Passed {K = Unit {0}} Anywhere (λ u. between []) (λ u. between (first ∷ more)) (nodes_before 1 (first ∷ more)) old new

pub one_read : (a b : Ahead) (d : Definition) (ds : List Definition) → ds ≡ d ∷ [] → Read MayDefine between behind_definition (spell_definition node_count 1) definition_of a b d → SoFar a b ds
one_read a b d ds e r = record {
  first = r.written;
  more = [];
  definitions = ap (λ x. x ∷ []) r.viewed ∙ sym e;
  passed = pass-read (at_start {K = Unit {0}} Anywhere (λ u. between []) a) r (λ u. []) (λ u. refl) (λ u m. inl refl);
}

pub further_read : (a b c : Ahead) (d : Definition) (ds es : List Definition) → es ≡ ds ++ d ∷ [] → SoFar a b ds → b.source ≢ ended
    → Read MayDefine between behind_definition (spell_definition node_count 0) definition_of b c d → SoFar a c es
further_read a b c d ds es e s n r = record {
  first = s.first;
  more = s.more ++ r.written ∷ [];
  definitions = map-append definition_of (s.first ∷ s.more) (r.written ∷ []) ∙ ap (λ x. x ++ definition_of r.written ∷ []) s.definitions ∙ ap (λ x. ds ++ x ∷ []) r.viewed ∙ sym e;
  passed = pass-as (pass-read s.passed r (λ u. s.first ∷ s.more) (λ u. refl) (λ u m. inr n)) (λ u. between (s.first ∷ s.more ++ r.written ∷ [])) (nodes_before 1 (s.first ∷ s.more ++ r.written ∷ []))
      (λ u. refl) (λ ns. nodes_before-push 1 s.first r.written s.more ns);
}

pub first_fails : (a : Ahead) (f : Fault) → Fails MayDefine between a f → Fails {K = Unit {0}} Anywhere (λ u. between []) a f
first_fails a f h = fails_in (at_start {K = Unit {0}} Anywhere (λ u. between []) a) MayDefine between (λ u. []) (λ u. refl) (λ u m. inl refl) f h

pub further_fails : (a b : Ahead) (ds : List Definition) (f : Fault) → SoFar a b ds → b.source ≢ ended → Fails MayDefine between b f → Fails {K = Unit {0}} Anywhere (λ u. between []) a f
further_fails a b ds f s n h = fails_in s.passed MayDefine between (λ u. s.first ∷ s.more) (λ u. refl) (λ u m. inr n) f h

pub document_read : (a b : Ahead) (ds : List Definition) → SoFar a b ds → b.source ≡ ended → ReadDocument a b ds
document_read a b ds s e = record {
  written = s.first ∷ s.more;
  viewed = s.definitions;
  read = λ size z. s.passed.goes tt size z tt ∙ ap (λ x. run_on size (between (s.first ∷ s.more)) x) e;
  nodes = ap (λ r. lay r a) (sym (nodes_before-all 1 (s.first ∷ s.more))) ∙ s.passed.nodes [];
}
