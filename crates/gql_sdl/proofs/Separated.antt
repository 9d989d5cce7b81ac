-- What has been read of a list with separators.
use Rattle.std.proofs.Common.{◌≡◌, ◌≤◌, ℕ, true, false, List, [], ◌∷◌, ◌++◌, map, length, Some, None, Ok, Err, refl, sym, ap, subst, ◌∙◌, arith}
use Rattle.gql_syntax.specs.gql_lex.Sources.{Source}
use Rattle.gql_syntax.specs.gql_lex.Toks as tok
use Rattle.gql_syntax.specs.gql_lex.Toks.{Tok, punctuator_of}
use Rattle.gql_syntax.specs.Answers.{node_count, Misses}
use Rattle.gql_syntax.specs.Nexts.{behind, next_is, next_word, Comes, stopped_at, token_count}
use Rattle.gql_syntax.specs.Places.{Ahead, lay}
use Rattle.gql_syntax.specs.Run.{unexpected}
use Rattle.gql_syntax.specs.Texts.{nesting_limit}
use Rattle.gql_syntax.specs.declared.fault.Fault.{Fault}
use Rattle.gql_sdl.specs.Machine.{State, advance, finish}
use Rattle.gql_sdl.specs.Reads.{run_on, Read, Fails}
use Rattle.gql_sdl.specs.Schemas.{NotEmpty, spell_separated, spell_further}
use Rattle.gql_sdl.proofs.Fronts.{further-then}
use Rattle.gql_sdl.proofs.Goings.{on-name, on-sign, alike, fails-behind, fails-missed}
use Rattle.gql_sdl.proofs.InputReads.{behind-count}
use Rattle.gql_sdl.proofs.Loops.{map-then}

pub record Separated (K W : Type 0) : Type 1 where
  pub May : K → Source → Type 0
  pub first : K → State
  pub next : K → List W → State
  pub more : K → List W → State
  pub ended : K → List W → State
  pub separator : ℕ
  pub nodes : ℕ
  pub word : W → List ℕ
  pub Missing : Source → Type 0

pub record SeparatedLaws {K W : Type 0} (L : Separated K W) : Type 0 where
  pub takes_first : (k : K) (w : W) → advance nesting_limit (L.first k) (tok.name (L.word w)) ≡ Ok (L.more k (w ∷ []))
  pub takes_separator : (k : K) (s : Source) (ws : List W) → L.May k s → advance nesting_limit (L.more k ws) (punctuator_of L.separator) ≡ Ok (L.next k ws)
  pub takes_next : (k : K) (ws : List W) (w : W) → advance nesting_limit (L.next k ws) (tok.name (L.word w)) ≡ Ok (L.more k (ws ++ w ∷ []))
  pub no_first : (k : K) (s : Source) → L.May k s → L.Missing s → (t : Tok) → Comes s t → advance nesting_limit (L.first k) t ≡ Err unexpected
  pub no_next : (k : K) (ws : List W) (s : Source) → L.Missing s → (t : Tok) → Comes s t → advance nesting_limit (L.next k ws) t ≡ Err unexpected
  pub unfinished_first : (k : K) → finish (L.first k) ≡ None
  pub unfinished_next : (k : K) (ws : List W) → finish (L.next k ws) ≡ None
  pub ends : (k : K) (s : Source) (ws : List W) → L.May k s → (there : Source) → next_is L.separator there ≡ false → (t : Tok) → Comes there t
      → advance nesting_limit (L.more k ws) t ≡ advance nesting_limit (L.ended k ws) t
  pub ends_finish : (k : K) (ws : List W) → finish (L.more k ws) ≡ finish (L.ended k ws)

abbrev pub sep_nodes : {K W : Type 0} → Separated K W → List W → List ℕ → List ℕ
sep_nodes L ws ns = spell_separated node_count tok.bar L.nodes false (map L.word ws) ns

module _ {K W : Type 0} (L : Separated K W) (laws : SeparatedLaws L) where
  -- these were read, and a separator may follow
  abbrev pub Listed : (a b : Ahead) → List W → Type 0
  Listed a b ws = Read L.May L.first L.more (sep_nodes L) (λ (ws : List W). ws) a b ws

  pub listed-first : (a b : Ahead) (w : W) (us : List W) → us ≡ w ∷ [] → next_word a.source ≡ Some (L.word w) → b.source ≡ behind a.source
      → ((ns : List ℕ) → lay (L.nodes ∷ ns) a ≡ lay ns b) → b.text ≡ a.text → Listed a b us
  listed-first a b w us e n s l t = subst (λ us. Listed a b us) (sym e) (record {
    written = w ∷ [];
    viewed = refl;
    goes = λ k size z m. on-name size (L.first k) (L.more k (w ∷ [])) a.source (L.word w) n (laws.takes_first k w) ∙ ap (run_on size (L.more k (w ∷ []))) (sym s);
    nodes = l;
    taken = subst (λ s. token_count s ≤ token_count a.source) (sym s) (behind-count a.source);
    text = t;
  })

  nodes-then : (ws : List W) (w : W) (ns : List ℕ) → NotEmpty ws → sep_nodes L (ws ++ w ∷ []) ns ≡ sep_nodes L ws (0 ∷ L.nodes ∷ ns)
  nodes-then [] w ns h = absurd h
  nodes-then (v ∷ ws) w ns h =
      ap (λ xs. L.nodes ∷ spell_further node_count tok.bar L.nodes xs ns) (map-then L.word ws w)
      ∙ ap (λ xs. L.nodes ∷ xs) (further-then node_count tok.bar L.nodes (map L.word ws) (L.word w) ns)

  to_next : (a b c : Ahead) (ws : List W) (r : Listed a b ws) → next_is L.separator b.source ≡ true → c.source ≡ behind b.source
      → (k : K) (size : ℕ) → size ≡ length a.text → L.May k a.source → run_on size (L.first k) a.source ≡ run_on size (L.next k r.written) c.source
  to_next a b c ws r n s k size z m =
      r.goes k size z m ∙ on-sign size L.separator (L.more k r.written) (L.next k r.written) b.source n (laws.takes_separator k a.source r.written m)
      ∙ ap (run_on size (L.next k r.written)) (sym s)

  pub listed-then : (a b c d : Ahead) (ws us : List W) (w : W) → Listed a b ws → NotEmpty ws → next_is L.separator b.source ≡ true → c.source ≡ behind b.source
      → ((ns : List ℕ) → lay (0 ∷ ns) b ≡ lay ns c) → c.text ≡ b.text
      → next_word c.source ≡ Some (L.word w) → d.source ≡ behind c.source → ((ns : List ℕ) → lay (L.nodes ∷ ns) c ≡ lay ns d) → d.text ≡ c.text
      → us ≡ ws ++ w ∷ [] → Listed a d us
  listed-then a b c d ws us w r h n s l t n2 s2 l2 t2 e = record {
    written = r.written ++ w ∷ [];
    viewed = ap (λ xs. xs ++ w ∷ []) r.viewed ∙ sym e;
    goes = λ k size z m. to_next a b c ws r n s k size z m
        ∙ on-name size (L.next k r.written) (L.more k (r.written ++ w ∷ [])) c.source (L.word w) n2 (laws.takes_next k r.written w)
        ∙ ap (run_on size (L.more k (r.written ++ w ∷ []))) (sym s2);
    nodes = λ ns. ap (λ xs. lay xs a) (nodes-then r.written w ns (subst NotEmpty (sym r.viewed) h)) ∙ r.nodes (0 ∷ L.nodes ∷ ns) ∙ l (L.nodes ∷ ns) ∙ l2 ns;
    taken = omega (arith, r.taken, behind-count b.source, behind-count c.source, ap token_count s, ap token_count s2);
    text = t2 ∙ t ∙ r.text;
  }

  pub listed-fails : (a b c : Ahead) (ws : List W) (f : Fault) → Listed a b ws → next_is L.separator b.source ≡ true → c.source ≡ behind b.source → c.text ≡ b.text
      → Misses f (L.Missing c.source) (stopped_at (length c.text) c.source) → Fails L.May L.first a f
  listed-fails a b c ws f r n s t m =
      fails-behind L.May L.first (λ (k : K) (s : Source). Unit {0}) (λ k. L.next k r.written) a c (λ k. k) (t ∙ r.text) (to_next a b c ws r n s) (λ k m. tt) f
      (fails-missed (λ (k : K) (s : Source). Unit {0}) (λ k. L.next k r.written) c (L.Missing c.source) f m
      (λ k z miss. (laws.unfinished_next k r.written, laws.no_next k r.written c.source miss)))

  pub listed-none : (a : Ahead) (f : Fault) → Misses f (L.Missing a.source) (stopped_at (length a.text) a.source) → Fails L.May L.first a f
  listed-none a f m =
      fails-missed L.May L.first a (L.Missing a.source) f m (λ k z miss. (laws.unfinished_first k, laws.no_first k a.source z miss))

  pub listed-ended : (a b : Ahead) (ws : List W) → Listed a b ws → next_is L.separator b.source ≡ false → Read L.May L.first L.ended (sep_nodes L) (λ (ws : List W). ws) a b ws
  listed-ended a b ws r n = record {
    written = r.written;
    viewed = r.viewed;
    goes = λ k size z m. r.goes k size z m
        ∙ alike size (L.more k r.written) (L.ended k r.written) b.source (laws.ends_finish k r.written) (laws.ends k a.source r.written m b.source n);
    nodes = r.nodes;
    taken = r.taken;
    text = r.text;
  }
