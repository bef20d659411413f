pub mod StepAndShow
