-- Two facts that clash among some clash among more.
use Rattle.std.proofs.Common.{List}
use Rattle.store_model.specs.Alike.{Among}
use Rattle.store_model.specs.declared.facts.Fact.{Fact}
use Rattle.store_report.specs.ObjectRows.{HaveClash, IsUnjoined}
use Rattle.store_report.specs.declared.untaken.Untaken.{Untaken}
use Rattle.store_report.specs.declared.untaken.Untaken.TheVariants.{Fault, Clash, NoMemory}

pub clash_more : (fs gs : List Fact) → ((f : Fact) → Among f fs → Among f gs) → HaveClash fs → HaveClash gs
clash_more fs gs more c = record {
  one = c.one;
  other = c.other;
  here = more c.one c.here;
  there = more c.other c.there;
  id = c.id;
  key = c.key;
  differ = c.differ;
}

pub unjoined_more : (fs gs : List Fact) → ((f : Fact) → Among f fs → Among f gs) → (cause : Untaken) → IsUnjoined fs cause → IsUnjoined gs cause
unjoined_more fs gs more (Fault f) h = absurd h
unjoined_more fs gs more Clash h = clash_more fs gs more h
unjoined_more fs gs more NoMemory h = tt
