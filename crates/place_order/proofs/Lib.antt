mod LineSteps
mod Rises
mod TokenOrder
