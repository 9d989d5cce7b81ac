-- How a reader goes on, part by part, from wherever it may stand.
use Rattle.std.proofs.Common.{◌≡◌, ◌≤◌, ◌<◌, ℕ, Bool, true, List, [], ◌∷◌, length, Some, Result, Ok, Err, OnOk, refl, sym, ap, subst, ◌∙◌, arith}
use Rattle.gql_syntax.specs.gql_lex.Sources.{Source}
use Rattle.gql_syntax.specs.gql_lex.Toks as tok
use Rattle.gql_syntax.specs.gql_lex.Toks.{Tok, punctuator_of}
use Rattle.gql_syntax.specs.gql_ast.declared.directive.Directive.{Directive}
use Rattle.gql_parse.specs.Machine.{Owner, State, in_directives, advance}
use Rattle.gql_parse.specs.Reads.{run_on, Read, Fails, Reads}
use Rattle.gql_syntax.specs.Answers.{Tells, Misses, node_count, wrong_at}
use Rattle.gql_syntax.specs.Machine.{further}
use Rattle.gql_syntax.specs.Nexts.{behind, next_is, next_word, Comes, stopped_at, too_deep_at, token_count}
use Rattle.gql_syntax.specs.Parts.{directives_read}
use Rattle.gql_syntax.specs.Places.{Ahead, lay}
use Rattle.gql_syntax.specs.Spelling.{spell_directives}
use Rattle.gql_syntax.specs.Texts.{nesting_limit}
use Rattle.gql_syntax.specs.declared.fault.Fault.{Fault}
use Rattle.gql_syntax.specs.declared.fault.Fault.TheVariants as fault
use Rattle.gql_syntax.proofs.Tokens.{comes_at, comes_word, behind_fewer}
use Rattle.gql_parse.proofs.Courses.{takes, directives_goes, directives_tells}

-- so far the machine has gone on to here, wherever the reader stands; `front` puts what has been read before what follows
pub record Passed {K : Type 0} (May : K → Source → Type 0) (from at : K → State) (front : List ℕ → List ℕ) (old new : Ahead) : Type 0 where
  pub goes : (k : K) (size : ℕ) → size ≡ length old.text → May k old.source → run_on size (from k) old.source ≡ run_on size (at k) new.source
  pub nodes : (ns : List ℕ) → lay (front ns) old ≡ lay ns new
  pub taken : token_count new.source ≤ token_count old.source
  pub text : new.text ≡ old.text

pub at_start : {K : Type 0} (May : K → Source → Type 0) (from : K → State) (a : Ahead) → Passed May from from (λ ns. ns) a a
at_start May from a = record { goes = λ k size e m. refl; nodes = λ ns. refl; taken = omega arith; text = refl }

-- a size that is told of a later text which is the same
resized : (size : ℕ) (s t : List ℕ) → size ≡ length s → t ≡ s → size ≡ length t
resized size s t e x = e ∙ ap (λ (l : List ℕ). length l) (sym x)

pub fewer : (s t : Source) → t ≡ behind s → token_count t ≤ token_count s
fewer s t e = subst (λ x. token_count x ≤ token_count s) (sym e) (behind_fewer s)

module _ {K : Type 0} {May : K → Source → Type 0} {from at : K → State} {front : List ℕ → List ℕ} {a b : Ahead} (p : Passed May from at front a b) where
  -- ---- further parts

  pub pass : (next : K → State) (part : List ℕ → List ℕ) (c : Ahead)
      → ((k : K) (size : ℕ) → size ≡ length b.text → May k a.source → run_on size (at k) b.source ≡ run_on size (next k) c.source)
      → ((ns : List ℕ) → lay (part ns) b ≡ lay ns c) → token_count c.source ≤ token_count b.source → c.text ≡ b.text
      → Passed May from next (λ ns. front (part ns)) a c
  pass next part c g n t x = record {
    goes = λ k size e m. p.goes k size e m ∙ g k size (resized size a.text b.text e p.text) m;
    nodes = λ ns. p.nodes (part ns) ∙ n ns;
    taken = omega (arith, t, p.taken);
    text = x ∙ p.text;
  }

  -- nothing is taken
  pub pass-over : (next : K → State) → ((k : K) (size : ℕ) → May k a.source → run_on size (at k) b.source ≡ run_on size (next k) b.source) → Passed May from next front a b
  pass-over next g = record {
    goes = λ k size e m. p.goes k size e m ∙ g k size m;
    nodes = p.nodes;
    taken = p.taken;
    text = p.text;
  }

  -- the same, told in another way
  pub pass-as : (next : K → State) (whole : List ℕ → List ℕ) → ((k : K) → at k ≡ next k) → ((ns : List ℕ) → whole ns ≡ front ns) → Passed May from next whole a b
  pass-as next whole g n = record {
    goes = λ k size e m. p.goes k size e m ∙ ap (λ s. run_on size s b.source) (g k);
    nodes = λ ns. ap (λ ms. lay ms a) (n ns) ∙ p.nodes ns;
    taken = p.taken;
    text = p.text;
  }

  pub pass-token : (t : Tok) (next : K → State) (nodes : ℕ) (c : Ahead) → ((k : K) → May k a.source → Comes b.source t) → c.source ≡ behind b.source
      → ((ns : List ℕ) → lay (nodes ∷ ns) b ≡ lay ns c) → c.text ≡ b.text → ((k : K) → advance nesting_limit (at k) t ≡ Ok (next k))
      → Passed May from next (λ ns. front (nodes ∷ ns)) a c
  pass-token t next nodes c w s l x e =
      pass next (λ ns. nodes ∷ ns) c (λ k size z m. takes size (at k) (next k) t b.source (w k m) (e k) ∙ ap (λ r. run_on size (next k) r) (sym s)) l (fewer b.source c.source s) x

  pub pass-name : (n : List ℕ) (next : K → State) (nodes : ℕ) (c : Ahead) → next_word b.source ≡ Some n → c.source ≡ behind b.source
      → ((ns : List ℕ) → lay (nodes ∷ ns) b ≡ lay ns c) → c.text ≡ b.text → ((k : K) → advance nesting_limit (at k) (tok.name n) ≡ Ok (next k))
      → Passed May from next (λ ns. front (nodes ∷ ns)) a c
  pass-name n next nodes c w s l x e = pass-token (tok.name n) next nodes c (λ k m. comes_word n b.source w) s l x e

  pub pass-sign : (sign : ℕ) (next : K → State) (nodes : ℕ) (c : Ahead) → next_is sign b.source ≡ true → c.source ≡ behind b.source
      → ((ns : List ℕ) → lay (nodes ∷ ns) b ≡ lay ns c) → c.text ≡ b.text → ((k : K) → advance nesting_limit (at k) (punctuator_of sign) ≡ Ok (next k))
      → Passed May from next (λ ns. front (nodes ∷ ns)) a c
  pass-sign sign next nodes c w s l x e = pass-token (punctuator_of sign) next nodes c (λ k m. comes_at sign b.source w) s l x e

  pub pass-directives : (constant : Bool) (owner : K → Owner) (ds : List Directive) (c : Ahead) → directives_read nesting_limit constant (length b.text) b.source ≡ Ok (ds, c.source)
      → ((ns : List ℕ) → lay (spell_directives node_count ds ns) b ≡ lay ns c) → token_count c.source ≤ token_count b.source → c.text ≡ b.text
      → ((k : K) → at k ≡ in_directives (further constant [] (owner k)))
      → Passed May from (λ k. in_directives (further constant ds (owner k))) (λ ns. front (spell_directives node_count ds ns)) a c
  pass-directives constant owner ds c r l t x same =
      pass (λ k. in_directives (further constant ds (owner k))) (spell_directives node_count ds) c
      (λ k size e m. ap (λ s. run_on size s b.source) (same k) ∙ directives_goes (length b.text) size constant (owner k) b.source ds c.source (sym e) r) l t x

  -- ---- what another reader has read

  module _ {L W T : Type 0} {Then : L → Source → Type 0} {begin : L → State} {to : L → W → State} {spell : W → List ℕ → List ℕ} {view : W → T} {c : Ahead} {t : T}
      (r : Read Then begin to spell view b c t) (under : K → L) (same : (k : K) → at k ≡ begin (under k)) (may : (k : K) → May k a.source → Then (under k) b.source) where
    pub pass-read : Passed May from (λ k. to (under k) r.written) (λ ns. front (spell r.written ns)) a c
    pass-read =
        pass (λ k. to (under k) r.written) (spell r.written) c
        (λ k size e m. ap (λ s. run_on size s b.source) (same k) ∙ r.goes (under k) size e (may k m)) r.nodes r.taken r.text

  -- and what it has read is as it is written
  pub pass-part : {L W : Type 0} {Then : L → Source → Type 0} {begin : L → State} {to : L → W → State} {spell : W → List ℕ → List ℕ} {c : Ahead} {w : W}
      (r : Read Then begin to spell (λ v. v) b c w) (under : K → L) → ((k : K) → at k ≡ begin (under k)) → ((k : K) → May k a.source → Then (under k) b.source)
      → Passed May from (λ k. to (under k) w) (λ ns. front (spell w ns)) a c
  pass-part {to = to} {spell = spell} {c = c} {w = w} r under same may =
      pass (λ k. to (under k) w) (spell w) c
      (λ k size e m. ap (λ s. run_on size s b.source) (same k) ∙ r.goes (under k) size e (may k m) ∙ ap (λ v. run_on size (to (under k) v) c.source) r.viewed)
      (λ ns. ap (λ v. lay (spell v ns) b) (sym r.viewed) ∙ r.nodes ns) r.taken r.text

  -- ---- the reader's answer

  pub all_read : {W T : Type 0} {to : K → W → State} {spell : W → List ℕ → List ℕ} {view : W → T} {t : T} (w : W) → view w ≡ t → ((k : K) → at k ≡ to k w) → ((ns : List ℕ) → spell w ns ≡ front ns)
      → Read May from to spell view a b t
  all_read w v g n = record {
    written = w;
    viewed = v;
    goes = λ k size e m. p.goes k size e m ∙ ap (λ s. run_on size s b.source) (g k);
    nodes = λ ns. ap (λ ms. lay ms a) (n ns) ∙ p.nodes ns;
    taken = p.taken;
    text = p.text;
  }

  pub fails_told : (f : Fault) → ((k : K) (size : ℕ) → size ≡ length b.text → May k a.source → Tells f (run_on size (at k) b.source)) → Fails May from a f
  fails_told (fault.Wrong code offset) h = λ k size e m. p.goes k size e m ∙ h k size (resized size a.text b.text e p.text) m
  fails_told fault.NoMemory h = tt

  pub fails_missed : (f : Fault) (missing : Type 0) → Misses f missing (stopped_at (length b.text) b.source)
      → ((k : K) (size : ℕ) → May k a.source → missing → run_on size (at k) b.source ≡ Err (stopped_at size b.source)) → Fails May from a f
  fails_missed (fault.Wrong code offset) missing x h =
      λ k size e m. p.goes k size e m ∙ h k size m x.0 ∙ ap (λ n. Err (stopped_at n b.source)) (resized size a.text b.text e p.text) ∙ ap (λ s. Err s) x.1
  fails_missed fault.NoMemory missing x h = tt

  pub fails_here : ((k : K) (size : ℕ) → May k a.source → run_on size (at k) b.source ≡ Err (stopped_at size b.source)) → Fails May from a (wrong_at (stopped_at (length b.text) b.source))
  fails_here h = λ k size e m. p.goes k size e m ∙ h k size m ∙ ap (λ n. Err (stopped_at n b.source)) (resized size a.text b.text e p.text)

  pub fails_deep : ((k : K) (size : ℕ) → May k a.source → run_on size (at k) b.source ≡ Err (too_deep_at size b.source)) → Fails May from a (wrong_at (too_deep_at (length b.text) b.source))
  fails_deep h = λ k size e m. p.goes k size e m ∙ h k size m ∙ ap (λ n. Err (too_deep_at n b.source)) (resized size a.text b.text e p.text)

  pub fails_directives : (constant : Bool) (owner : K → Owner) (f : Fault) → Tells f (directives_read nesting_limit constant (length b.text) b.source)
      → ((k : K) → at k ≡ in_directives (further constant [] (owner k))) → Fails May from a f
  fails_directives constant owner f h same =
      fails_told f (λ k size e m. subst (λ s. Tells f (run_on size s b.source)) (sym (same k)) (directives_tells (length b.text) size constant (owner k) b.source f (sym e) h))

  module _ {L : Type 0} (Then : L → Source → Type 0) (begin : L → State) (under : K → L) (same : (k : K) → at k ≡ begin (under k)) (may : (k : K) → May k a.source → Then (under k) b.source) where
    pub fails_in : (f : Fault) → Fails Then begin b f → Fails May from a f
    fails_in (fault.Wrong code offset) h =
        λ k size e m. p.goes k size e m ∙ ap (λ s. run_on size s b.source) (same k) ∙ h (under k) size (resized size a.text b.text e p.text) (may k m)
    fails_in fault.NoMemory h = tt

-- another reader reads the rest
module _ {K : Type 0} {May : K → Source → Type 0} {from at : K → State} {front : List ℕ → List ℕ} {a b : Ahead} (p : Passed May from at front a b)
    {L : Type 0} (Then : L → Source → Type 0) (begin : L → State) (under : K → L) (same : (k : K) → at k ≡ begin (under k)) (may : (k : K) → May k a.source → Then (under k) b.source) where
  pub reads_in : {V W T : Type 0} (begun : L → V → State) (rest : V → List ℕ → List ℕ) (seen : V → T) (to : K → W → State) (spell : W → List ℕ → List ℕ) (view : W → T) (c : Ahead) (r : Result T Fault)
      (lift : V → W) → ((k : K) (v : V) → begun (under k) v ≡ to k (lift v)) → ((v : V) (ns : List ℕ) → spell (lift v) ns ≡ front (rest v ns)) → ((v : V) → view (lift v) ≡ seen v)
      → Reads Then begin begun rest seen b c r → Reads May from to spell view a c r
  reads_in begun rest seen to spell view c (Ok t) lift g n v x =
      all_read (pass-read p x under same may) (lift x.written) (v x.written ∙ x.viewed) (λ k. g k x.written) (λ ns. n x.written ns)
  reads_in begun rest seen to spell view c (Err f) lift g n v x = fails_in p Then begin under same may f x

-- where the next reader may stand, too
pub reads_where : {K W T : Type 0} (May Then : K → Source → Type 0) (from : K → State) (to : K → W → State) (spell : W → List ℕ → List ℕ) (view : W → T) (a c : Ahead) (r : Result T Fault)
    → ((k : K) → May k a.source → Then k a.source) → Reads Then from to spell view a c r → Reads May from to spell view a c r
reads_where May Then from to spell view a c (Ok t) h x = record {
  written = x.written;
  viewed = x.viewed;
  goes = λ k size e m. x.goes k size e (h k m);
  nodes = x.nodes;
  taken = x.taken;
  text = x.text;
}
reads_where May Then from to spell view a c (Err (fault.Wrong code offset)) h x = λ k size e m. x k size e (h k m)
reads_where May Then from to spell view a c (Err fault.NoMemory) h x = tt

-- behind what has been taken
pub fewer_still : {K W T : Type 0} (May : K → Source → Type 0) (from : K → State) (to : K → W → State) (spell : W → List ℕ → List ℕ) (view : W → T) (a b c : Ahead) (r : Result T Fault)
    → Reads May from to spell view b c r → token_count b.source < token_count a.source → OnOk r (token_count c.source < token_count a.source)
fewer_still May from to spell view a b c (Ok t) x l = omega (arith, l, x.taken)
fewer_still May from to spell view a b c (Err f) x l = tt
