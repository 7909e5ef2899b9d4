pub mod FirstStage
