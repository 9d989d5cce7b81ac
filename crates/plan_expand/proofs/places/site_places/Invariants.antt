-- What is put and what is left are the whole.
use Rattle.std.proofs.Common.{◌≡◌, ◌++◌, map, drop}
use Rattle.doc_sites.specs.SitesView.{site_of}
use Rattle.plan_expand.specs.Places.{site_places_in}
use Rattle.plan_ir.specs.Projects.{place_in}
use Rattle.plan_expand.proofs.places.site_places.Given as goal

abbrev pub invariant-sites : goal.invariant-sites
invariant-sites l =
    l.places.items ++ site_places_in (place_in l.nodes) (map site_of (drop l.site-index l.sites)) ≡ site_places_in (place_in l.nodes) (map site_of l.sites)
