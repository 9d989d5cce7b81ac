mod FactLaws
mod ListedLaws
mod ListLaws
mod NumberSteps
