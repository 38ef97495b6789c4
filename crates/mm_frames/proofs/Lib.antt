pub mod BatchLaws
pub mod EditLaws
pub mod FrameLaws
pub mod ReadLaws
pub mod StepLaws
pub mod UsedLaws
pub mod WholeLaws
