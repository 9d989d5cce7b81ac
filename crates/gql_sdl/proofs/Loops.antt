-- What has been read of a list between two punctuators.
use Rattle.std.specs.Borrow.{MutBor}
use Rattle.std.proofs.Common.{◌≡◌, ◌≢◌, ◌≤◌, ℕ, true, false, List, [], ◌∷◌, ◌++◌, map, length, None, Result, Ok, Err, refl, sym, ap, subst, ◌∙◌, arith}
use Rattle.std.proofs.lemmas.List.{append-nil, append_assoc}
use Rattle.gql_syntax.specs.gql_lex.Sources.{Source, ended, faulty, token}
use Rattle.gql_syntax.proofs.Tokens.{comes_at}
use Rattle.gql_syntax.specs.gql_lex.Toks.{Tok, punctuator_of}
use Rattle.gql_syntax.specs.Answers.{wrong_at}
use Rattle.gql_syntax.specs.Nexts.{next_is, Comes, stopped_at, token_count}
use Rattle.gql_syntax.specs.Places.{Ahead, lay}
use Rattle.gql_syntax.specs.Run.{unexpected}
use Rattle.gql_syntax.specs.Texts.{nesting_limit}
use Rattle.gql_syntax.specs.declared.fault.Fault.{Fault}
use Rattle.gql_syntax.specs.Enclosed.{Takes, Reader, InTurn, Opened, Enclosed, Unread, no_memory, not_opened, closed_at_once, member_fails}
use Rattle.gql_sdl.specs.Machine.{State, advance, finish}
use Rattle.gql_sdl.specs.Reads.{run_on, Read, Fails, Reads}
use Rattle.gql_sdl.specs.Schemas.{NotEmpty}
use Rattle.gql_sdl.proofs.Goings.{on-sign, fails-behind, fails-missed, fails-stopped}
use Rattle.gql_sdl.proofs.InputReads.{behind-count}

pub map-then : {A B : Type 0} (f : A → B) (xs : List A) (x : A) → map f (xs ++ x ∷ []) ≡ map f xs ++ f x ∷ []
map-then f [] x = refl
map-then f (y ∷ xs) x = ap (λ ys. f y ∷ ys) (map-then f xs x)

pub some-then : {A : Type 0} (xs : List A) (x : A) → NotEmpty (xs ++ x ∷ [])
some-then [] x = tt
some-then (y ∷ xs) x = tt

same-token : (s : Source) (t u : Tok) → Comes s t → Comes s u → t ≡ u
same-token ended t u c d = absurd c
same-token (faulty code at) t u c d = absurd c
same-token (token p rest) t u c d = sym c ∙ d

-- K is where the list stands, J where a member of it stands; W is what is written, and T what is kept of it
pub record ListOf (K J W T : Type 0) : Type 1 where
  pub May : K → Source → Type 0
  pub unopened : K → State
  pub open_at : K → List W → State
  pub close_at : K → List W → State
  pub opening : ℕ
  pub closing : ℕ
  pub spells : List W → List ℕ → List ℕ
  pub whole : List W → List ℕ → List ℕ
  pub kept : W → T
  pub at_member : K → List W → J
  pub MayMember : J → Source → Type 0
  pub from : J → State
  pub to : J → W → State
  pub spell : W → List ℕ → List ℕ

pub record ListLaws {K J W T : Type 0} (L : ListOf K J W T) : Type 0 where
  pub opens : (k : K) (ahead : Source) → L.May k ahead → advance nesting_limit (L.unopened k) (punctuator_of L.opening) ≡ Ok (L.open_at k [])
  pub begins : (k : K) (ws : List W) → L.open_at k ws ≡ L.from (L.at_member k ws)
  pub may_begin : (k : K) (ws : List W) (ahead there : Source) → L.May k ahead → next_is L.closing there ≡ false → L.MayMember (L.at_member k ws) there
  pub goes_on : (k : K) (ws : List W) (w : W) → L.to (L.at_member k ws) w ≡ L.open_at k (ws ++ w ∷ [])
  pub spells_then : (ws : List W) (w : W) (ns : List ℕ) → L.spells (ws ++ w ∷ []) ns ≡ L.spells ws (L.spell w ns)
  pub spells_none : (ns : List ℕ) → L.spells [] ns ≡ ns
  pub whole_some : (ws : List W) (ns : List ℕ) → NotEmpty ws → L.whole ws ns ≡ 0 ∷ L.spells ws (0 ∷ ns)
  pub closes : (k : K) (ahead : Source) (ws : List W) → L.May k ahead → NotEmpty ws → advance nesting_limit (L.open_at k ws) (punctuator_of L.closing) ≡ Ok (L.close_at k ws)
  pub stops_closed : (k : K) (ahead : Source) → L.May k ahead → advance nesting_limit (L.open_at k []) (punctuator_of L.closing) ≡ Err unexpected
  pub unfinished : (k : K) (ws : List W) → finish (L.open_at k ws) ≡ None

module _ {K J W T : Type 0} (L : ListOf K J W T) (laws : ListLaws L) where
  -- the list has been opened, and these members were read
  abbrev SoFar : (old new : Ahead) → List T → Type 0
  SoFar old new ts = Read L.May L.unopened L.open_at (λ ws ns. 0 ∷ L.spells ws ns) (map L.kept) old new ts

  so_far-none : (old new : Ahead) → Takes L.opening old new → SoFar old new []
  so_far-none old new o = record {
    written = [];
    viewed = refl;
    goes = λ k size e m. on-sign size L.opening (L.unopened k) (L.open_at k []) old.source o.there (laws.opens k old.source m) ∙ ap (run_on size (L.open_at k [])) (sym o.source);
    nodes = λ ns. ap (λ xs. lay (0 ∷ xs) old) (laws.spells_none ns) ∙ o.places ns;
    taken = subst (λ s. token_count s ≤ token_count old.source) (sym o.source) (behind-count old.source);
    text = o.text;
  }

  so_far-then : (old here there : Ahead) (ts : List T) (t : T) → SoFar old here ts → next_is L.closing here.source ≡ false
      → Read L.MayMember L.from L.to L.spell L.kept here there t → SoFar old there (ts ++ t ∷ [])
  so_far-then old here there ts t r n i = record {
    written = r.written ++ i.written ∷ [];
    viewed = map-then L.kept r.written i.written ∙ ap (λ xs. xs ++ L.kept i.written ∷ []) r.viewed ∙ ap (λ x. ts ++ x ∷ []) i.viewed;
    goes = λ k size z m. r.goes k size z m ∙ ap (λ s. run_on size s here.source) (laws.begins k r.written)
        ∙ i.goes (L.at_member k r.written) size (z ∙ ap (λ (s : List ℕ). length s) (sym r.text)) (laws.may_begin k r.written old.source here.source m n)
        ∙ ap (λ s. run_on size s there.source) (laws.goes_on k r.written i.written);
    nodes = λ ns. ap (λ xs. lay (0 ∷ xs) old) (laws.spells_then r.written i.written ns) ∙ r.nodes (L.spell i.written ns) ∙ i.nodes ns;
    taken = omega (arith, r.taken, i.taken);
    text = i.text ∙ r.text;
  }

  -- nothing stands in the list
  so_far-closed : (old here : Ahead) → SoFar old here [] → next_is L.closing here.source ≡ true → Fails L.May L.unopened old (wrong_at (stopped_at (length here.text) here.source))
  so_far-closed old here r n =
      fails-behind L.May L.unopened (λ (k : K) (s : Source). L.May k old.source) (λ k. L.open_at k []) old here (λ k. k) r.text
      (λ k size z m. r.goes k size z m ∙ ap (λ ws. run_on size (L.open_at k ws) here.source) (none r.written r.viewed))
      (λ k m. m) (wrong_at (stopped_at (length here.text) here.source))
      (fails-stopped (λ (k : K) (s : Source). L.May k old.source) (λ k. L.open_at k []) here
      (λ k m. (laws.unfinished k [], λ t c. ap (λ t. advance nesting_limit (L.open_at k []) t) (comes-sign here.source t c n) ∙ laws.stops_closed k old.source m)))
    where
      none : (ws : List W) → map L.kept ws ≡ [] → ws ≡ []
      none [] e = refl
      none (w ∷ ws) e = absurd (cc)

      comes-sign : (s : Source) (t : Tok) → Comes s t → next_is L.closing s ≡ true → t ≡ punctuator_of L.closing
      comes-sign s t c n = same-token s t (punctuator_of L.closing) c (comes_at L.closing s n)

  -- the list is not opened here
  pub list-absent : (old : Ahead) (us : List T) → us ≡ [] → ((ns : List ℕ) → L.whole [] ns ≡ ns)
      → ((k : K) (size : ℕ) → L.May k old.source → run_on size (L.unopened k) old.source ≡ run_on size (L.close_at k []) old.source)
      → Read L.May L.unopened L.close_at L.whole (map L.kept) old old us
  list-absent old us e w g = record {
    written = [];
    viewed = sym e;
    goes = λ k size z m. g k size m;
    nodes = λ ns. ap (λ xs. lay xs old) (w ns);
    taken = omega arith;
    text = refl;
  }

  module _ (reads : Reader T) (means : (here there : MutBor Ahead) (r : Result T Fault) → reads here r there → Reads L.MayMember L.from L.to L.spell L.kept here.now there.now r) where
    so_far : (old here there : Ahead) (ts us : List T) → SoFar old here ts → InTurn L.closing reads here us there → SoFar old there (ts ++ us)
    so_far old here there ts [] r i = subst (SoFar old there) (sym (append-nil ts)) (subst (λ a. SoFar old a ts) i r)
    so_far old here there ts (u ∷ us) r i =
        subst (SoFar old there) (append_assoc ts (u ∷ []) us) (so_far old i.1.now there (ts ++ u ∷ []) us
        (so_far-then old i.0.now i.1.now ts u (subst (λ a. SoFar old a ts) i.2 r) i.3 (means i.0 i.1 (Ok u) i.4)) i.5)

    so_far-opened : (old new : Ahead) (ts : List T) → Opened L.opening L.closing reads old new ts → SoFar old new ts
    so_far-opened old new ts o = so_far old o.first new [] ts (so_far-none old o.first o.opens) o.members

    pub list-read : (old new : Ahead) (ts : List T) → Enclosed L.opening L.closing reads old new ts → Read L.May L.unopened L.close_at L.whole (map L.kept) old new ts
    list-read old new ts e =
        let r = so_far-opened old e.last ts e.opened in
        let h = written-some r.written (subst (λ us. us ≢ []) (sym r.viewed) e.some) in record {
          written = r.written;
          viewed = r.viewed;
          goes = λ k size z m. r.goes k size z m
              ∙ on-sign size L.closing (L.open_at k r.written) (L.close_at k r.written) e.last.source e.closes.there (laws.closes k old.source r.written m h)
              ∙ ap (run_on size (L.close_at k r.written)) (sym e.closes.source);
          nodes = λ ns. ap (λ xs. lay xs old) (laws.whole_some r.written ns h) ∙ r.nodes (0 ∷ ns) ∙ e.closes.places ns;
          taken = omega (arith, r.taken, ap token_count e.closes.source, behind-count e.last.source);
          text = e.closes.text ∙ r.text;
        }
      where
        written-some : (ws : List W) → map L.kept ws ≢ [] → NotEmpty ws
        written-some [] h = absurd (h refl)
        written-some (w ∷ ws) h = tt

    pub list-fails : (old : Ahead) (f : Fault)
        → ((k : K) → L.May k old.source → next_is L.opening old.source ≡ false → (finish (L.unopened k) ≡ None) × ((t : Tok) → Comes old.source t → advance nesting_limit (L.unopened k) t ≡ Err unexpected))
        → Unread L.opening L.closing reads old f → Fails L.May L.unopened old f
    list-fails old f stop (no_memory e) = rw e tt
    list-fails old f stop (not_opened m) = fails-missed L.May L.unopened old (next_is L.opening old.source ≡ false) f m stop
    list-fails old f stop (closed_at_once here o n e) = rw e (so_far-closed old here (so_far-opened old here [] o) n)
    list-fails old f stop (member_fails here there ts o n m) =
        let r = so_far-opened old here.now ts o in
        fails-behind L.May L.unopened L.MayMember L.from old here.now (λ k. L.at_member k r.written) r.text
        (λ k size z m. r.goes k size z m ∙ ap (λ s. run_on size s here.now.source) (laws.begins k r.written))
        (λ k m. laws.may_begin k r.written old.source here.now.source m n) f (means here there (Err f) m)
