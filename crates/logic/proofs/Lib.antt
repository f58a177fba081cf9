pub mod LogicLaws
