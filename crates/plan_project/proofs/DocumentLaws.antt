-- Texts are read as documents, one after another.
use Rattle.std.proofs.Common.{◌≡◌, ◌⊎◌, ◌<◌, ◌+◌, ℕ, suc, List, [], ◌∷◌, ◌++◌, length, get_or, drop, Result, Ok, Err, sym, ap, subst, inl, inr, ◌∙◌, append_assoc, append-nil, add-one, drop-cons}
use Rattle.plan_ir.specs.gql_ast.declared.document.Document.{Document}
use Rattle.plan_ir.specs.gql_ast.declared.fault.ParseFault.{ParseFault}
use Rattle.plan_ir.specs.gql_ast.declared.fault.ParseFault.TheVariants.{Syntax, NoMemory}
use Rattle.plan_ir.specs.gql_ast.declared.place.Placed.{Placed}
use Rattle.text_places.specs.gql_parse.Documents.{documents}
use Rattle.text_places.specs.gql_parse.Trees.{IsDocument}
use Rattle.plan_ir.specs.gql_syntax.Texts.{IsParseFault}
use Rattle.plan_project.proofs.Codes.{parse_fault_coded}
use Rattle.plan_project.specs.Projects.{AreDocuments, IsDocumentsFault}
use Rattle.plan_project.specs.Verdicts.{Files, texts_of, AreOnlyDocuments, AreNoDocuments}
use Rattle.plan_ir.specs.gql_graph.Texts.{Text}
use Rattle.plan_project.specs.declared.fault.ProjectFault.{ProjectFault}

-- what an answer is, where it is the one of a tree
pub only_of : {A E : Type 0} (P : A → Type 0) (r : Result A E) (x : A) (e : E) → ((p : A) → P p → (r ≡ Err e) ⊎ (r ≡ Ok p)) → r ≡ Ok x → (p : A) → P p → p ≡ x
only_of P r x e only is p h = elim (only p h) [
  | inl a ↦ absurd (let bad : Ok x ≡ Err e = sym is ∙ a in cc)
  | inr a ↦ let same : Ok x ≡ Ok p = sym is ∙ a in cc
]

-- the first texts are these documents, and the next has this number
pub record ReadSoFar (n : ℕ) (texts : List Text) (ps : List (Placed Document)) (next : ℕ) (rest : List Text) : Type 0 where
  pub are : (qs : List (Placed Document)) → AreDocuments next rest qs → AreDocuments n texts (ps ++ qs)
  pub only : (all : List (Placed Document)) → AreDocuments n texts all → (qs : List (Placed Document)) × (all ≡ ps ++ qs) × AreDocuments next rest qs
  pub fault : (f : ProjectFault) → IsDocumentsFault next rest f → IsDocumentsFault n texts f

module _ (n : ℕ) (texts : List Text) (ps : List (Placed Document)) (next : ℕ) (t : Text) (more : List Text) (r : ReadSoFar n texts ps next (t ∷ more)) where
  further : (p : Placed Document) → IsDocument next t p → ((q : Placed Document) → IsDocument next t q → q ≡ p) → (all : List (Placed Document))
      → (qs : List (Placed Document)) → all ≡ ps ++ qs → AreDocuments next (t ∷ more) qs
      → (rs : List (Placed Document)) × (all ≡ (ps ++ p ∷ []) ++ rs) × AreDocuments (suc next) more rs
  further p d only all [] e h = absurd h
  further p d only all (q ∷ qs) e h = (qs, e ∙ ap (λ x. ps ++ x ∷ qs) (only q h.0) ∙ sym (append_assoc ps (p ∷ []) qs), h.1)

  read_more : (p : Placed Document) → IsDocument next t p → ((q : Placed Document) → IsDocument next t q → q ≡ p) → ReadSoFar n texts (ps ++ p ∷ []) (suc next) more
  read_more p d only = record {
    are = λ qs h. subst (AreDocuments n texts) (sym (append_assoc ps (p ∷ []) qs)) (r.are (p ∷ qs) (d, h));
    only = λ all h. let x = r.only all h in further p d only all x.0 x.1 x.2;
    fault = λ f h. r.fault f (inr (p, d, h));
  }

  read_fault : (f : ParseFault) → IsParseFault documents next t f → AreNoDocuments n texts f
  read_fault (Syntax s) x = (parse_fault_coded documents next t (Syntax s) x, λ f h. r.fault f (inl (s, x, h)))
  read_fault NoMemory x = tt

-- the texts from a file on
texts_drop : (files : Files) (i : ℕ) (f : Text × Text) → i < length files → f ≡ get_or files i f → texts_of (drop i files) ≡ f.1 ∷ texts_of (drop (i + 1) files)
texts_drop files i f within is = ap texts_of (drop-cons files i f within ∙ (λ j. sym is j ∷ drop (sym (add-one i) j) files))

-- the next file of a loop, `f`, of which the bytes are read
module _ (n : ℕ) (files : Files) (ps : List (Placed Document)) (next i : ℕ) (f : Text × Text) (bytes : Text) where
  here : ReadSoFar n (texts_of files) ps next (texts_of (drop i files)) → i < length files → f ≡ get_or files i f → bytes ≡ f.1
      → ReadSoFar n (texts_of files) ps next (bytes ∷ texts_of (drop (i + 1) files))
  here r within is e =
      subst (λ ts. ReadSoFar n (texts_of files) ps next ts) (texts_drop files i f within is ∙ ap (λ t. t ∷ texts_of (drop (i + 1) files)) (sym e)) r

  pub read-step : (after : ℕ) (p : Placed Document) → after ≡ suc next → ReadSoFar n (texts_of files) ps next (texts_of (drop i files)) → i < length files
      → f ≡ get_or files i f → bytes ≡ f.1 → IsDocument next bytes p → ((q : Placed Document) → IsDocument next bytes q → q ≡ p)
      → ReadSoFar n (texts_of files) (ps ++ p ∷ []) after (texts_of (drop (i + 1) files))
  read-step after p e r within is same d only =
      subst (λ k. ReadSoFar n (texts_of files) (ps ++ p ∷ []) k (texts_of (drop (i + 1) files))) (sym e)
      (read_more n (texts_of files) ps next bytes (texts_of (drop (i + 1) files)) (here r within is same) p d only)

  pub read-fault : (fault : ParseFault) → ReadSoFar n (texts_of files) ps next (texts_of (drop i files)) → i < length files → f ≡ get_or files i f → bytes ≡ f.1
      → IsParseFault documents next bytes fault → AreNoDocuments n (texts_of files) fault
  read-fault fault r within is same x =
      read_fault n (texts_of files) ps next bytes (texts_of (drop (i + 1) files)) (here r within is same) fault x

pub read-all : (n : ℕ) (texts : List Text) (ps : List (Placed Document)) (next : ℕ) (rest : List Text) → rest ≡ [] → ReadSoFar n texts ps next rest → AreOnlyDocuments n texts ps
read-all n texts ps next rest e r =
    let done = subst (λ ts. ReadSoFar n texts ps next ts) e r in
    record {
      are = subst (AreDocuments n texts) (append-nil ps) (done.are [] tt);
      only = λ others h. let x = done.only others h in last others x.0 x.1 x.2;
    }
  where
    last : (others qs : List (Placed Document)) → others ≡ ps ++ qs → AreDocuments next [] qs → others ≡ ps
    last others [] e h = e ∙ append-nil ps
    last others (q ∷ qs) e h = absurd h
