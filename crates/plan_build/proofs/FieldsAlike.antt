-- The fields of an expanded set are alike where they merge, and where any two that are collected for one object have one form.
use Rattle.doc_merge.proofs.CollectedLaws.{collected_alike}
use Rattle.doc_merge.specs.Gathering.{fields_in}
use Rattle.plan_build.proofs.PartLaws.{one_name_each}
use Rattle.plan_build.specs.Laws.{FieldsOfOneFormAreAlike, MergingFieldsAreAlike}

pub fields_of_one_form_are_alike : FieldsOfOneFormAreAlike
fields_of_one_form_are_alike defs e all s u there back = one_name_each (fields_in defs e) all s u there back

-- V24
pub merging_fields_are_alike : MergingFieldsAreAlike
merging_fields_are_alike defs e none = fields_of_one_form_are_alike defs e (collected_alike (fields_in defs e) none)
